use Rattle.livevar_transform.specs.PlanLaws.{merged_planned}
use Rattle.livevar_transform.proofs.plan.LiveSheet.plan.Goals as goal

pub invariant_of-result-clause-merged : goal.invariant_of-result-clause-merged
invariant_of-result-clause-merged c = rw (c.accepted.ensures.count) (merged_planned c.args.self.ready.known c.fill_plan.ensures.planned)
