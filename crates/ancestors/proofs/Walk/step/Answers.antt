use Rattle.std.proofs.Common.{arith, ap, ◌∙◌}
use Rattle.ancestors.specs.Ancestors.{passed_over}
use Rattle.ancestors.specs.ChainLaws.{next_of}
use Rattle.ancestors.proofs.WalkingLaws.{end_below, end_kept, put_room, stepped_off, stepped_on}
use Rattle.ancestors.proofs.Walk.step.Goals as goal

pub bounds-self-at : goal.bounds-self-at
bounds-self-at c = let p = c.requires in omega (arith, end_below _ _ _ p.going p.some p.last)

pub bounds-self-at-in-Some : goal.bounds-self-at-in-Some
bounds-self-at-in-Some c = let p = c.requires in omega (arith, end_below _ _ _ p.going p.some p.last)

pub put-requires : goal.put-requires
put-requires c =
    let parent = c.parent_at.ensures in
    let room = put_room c.requires.going parent.low (ap (passed_over _ _) parent.value ∙ c.in-Some.ensures.new) in
    record { low = parent.low; listed = room.0; path = room.1 }

pub returns-in-Some : goal.returns-in-Some
returns-in-Some c =
    let p = c.requires in
    let at = c.in-Some.ensures in
    let parent = c.parent_at.ensures in
    let from = end_kept _ _ _ p.going p.some p.last c.from-at.ensures c.from.ensures in
    stepped_on _ _ _ p.going p.some p.last c.from-at.ensures (at.found.each _ from) at.within (next_of _ c.args.ways.chained at.within) parent.low parent.value (ap (passed_over _ _) parent.value ∙ at.new) c.put.ensures

pub returns-in-None : goal.returns-in-None
returns-in-None c =
    let p = c.requires in
    let from = end_kept _ _ _ p.going p.some p.last c.from-at.ensures c.from.ensures in
    stepped_off _ _ _ p.going p.some p.last (c.in-None.ensures.none.each _ from) c.pop.ensures
