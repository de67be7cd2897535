use Rattle.std.proofs.Common.{◌<◌, ◌∙◌, arith, rules}
use Rattle.class_set.specs.ClassSet.{sheets_in}
use Rattle.class_set.specs.CutLaws.{start_inside}
use Rattle.class_set.specs.ClassLaws.{answered_none, next_is, answered_more}
use Rattle.live_class.proofs.live_class.live_sheets.Goals as goal

pub loop-k-init : goal.loop-k-init
loop-k-init c = (search rules, answered_none _ _ _ _ c.next_start-start.ensures.first)

pub next_start-next-requires : goal.next_start-next-requires
next_start-next-requires c = let l = c.loop-k in omega (arith, l.invariant.1.begins, start_inside c.args.sheets.now l.k (omega (arith, c.requires.count)))

pub loop-k-preserved : goal.loop-k-preserved
loop-k-preserved c =
    let l = c.loop-k in
    let here : l.k < sheets_in c.args.sheets.now = omega (arith, c.requires.count) in
    let is = next_is c.args.sheets.now l.start _ l.k here l.invariant.1.begins c.next_start-next.ensures.first in
    (search rules, answered_more _ _ _ _ _ _ _ l.k here (omega (arith, c.requires.count, c.requires.sets)) l.invariant.1 is _ _ c.live_sheet-answer.ensures.sets_after (c.copy_from_slice.ensures.after ∙ c.live_sheet-answer.ensures.answer))
