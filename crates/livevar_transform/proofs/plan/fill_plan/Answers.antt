use Rattle.std.proofs.Common.{rules, arith, ◌∙◌, ◌+◌, ◌*◌, ◌<◌, length}
use Rattle.std.proofs.lemmas.List.{map-set, length-map}
use Rattle.livevar_transform.specs.PlanLaws.{behind_first, behind_next, same_merged}
use Rattle.livevar_transform.specs.LostLaws.{planned_none, planned_more, planned_end}
use Rattle.livevar_transform.proofs.plan.fill_plan.Goals as goal

pub loop-k-init : goal.loop-k-init
loop-k-init c = (behind_first _ _, planned_none _ _ _ _ _, c.requires.offsets, c.requires.edges)

pub loop-k-preserved : goal.loop-k-preserved
loop-k-preserved c =
    let s = c.args.live in
    let l = c.loop-k in
    let in-lost : 2 * l.k + 1 < length l.lost = search rules in (
      c.eq-behind.ensures ∙ same_merged _ ∙ behind_next _ _ _ c.fate-fate.ensures,
      rw (map-set, map-set) (planned_more s.ready _ _ c.loop-k-test.true (search rules) (rw (length-map) in-lost) c.instruction.ensures (search rules) (search rules) c.fate-fate.ensures c.lost_on.ensures c.lost_on-in-loop-k.ensures l.invariant.1),
      search rules,
      search rules,
    )

pub returns-clause-planned : goal.returns-clause-planned
returns-clause-planned c = planned_end _ _ (omega arith) c.loop-k.invariant.1
