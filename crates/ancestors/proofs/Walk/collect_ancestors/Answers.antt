use Rattle.std.proofs.Common.{arith, refl, sym, ◌∙◌}
use Rattle.borrow_analysis.specs.AncestorLaws.{collect_skip}
use Rattle.ancestors.proofs.WalkingLaws.{put_room, put_going, put_more, none_last, last_is, walk_step, walk_whole}
use Rattle.ancestors.proofs.Walk.collect_ancestors.Goals as goal

pub returns-then-passes_over : goal.returns-then-passes_over
returns-then-passes_over c =
    let p = c.requires in
    record { going = p.going; rests = p.rests; listed = collect_skip _ _ _ _ _ (sym c.passes_over.ensures ∙ c.if-passes_over.true) }

pub put-requires : goal.put-requires
put-requires c =
    let p = c.requires in
    let room = put_room p.going p.low (sym c.passes_over.ensures ∙ c.if-passes_over.false) in
    record { low = p.low; listed = room.0; path = room.1 }

pub loop-end-init : goal.loop-end-init
loop-end-init c =
    let p = c.requires in
    let new = sym c.passes_over.ensures ∙ c.if-passes_over.false in
    record { going = put_going _ _ _ _ _ _ p.going p.low new c.put.ensures (put_more _ _ _ _ _ _ p.going p.low new c.put.ensures p.going.scans); work = refl }

pub step-requires : goal.step-requires
step-requires c =
    let last = last_is c.loop-end.self _ c.as_slice.ensures c.in-Some.ensures.value in
    record { going = c.loop-end.invariant.going; some = last.0; last = last.1 }

pub loop-end-smaller : goal.loop-end-smaller
loop-end-smaller c =
    let last = last_is c.loop-end.self _ c.as_slice.ensures c.in-Some.ensures.value in
    omega (arith, (walk_step _ _ c.args.ways.triples.inside last.0 c.loop-end.invariant c.step.ensures).1)

pub loop-end-preserved : goal.loop-end-preserved
loop-end-preserved c =
    let last = last_is c.loop-end.self _ c.as_slice.ensures c.in-Some.ensures.value in
    (walk_step _ _ c.args.ways.triples.inside last.0 c.loop-end.invariant c.step.ensures).0

pub returns : goal.returns
returns c =
    let p = c.requires in
    let so = c.loop-end.invariant in
    let none = none_last c.as_slice.ensures c.in_default.ensures.value in
    record { going = so.going; rests = none; listed = walk_whole _ _ c.args.ways.triples.inside _ p.going p.rests p.low (sym c.passes_over.ensures ∙ c.if-passes_over.false) c.put.ensures so none }
