use Rattle.std.proofs.Common.{◌∙◌, ◌*◌}
use Rattle.base.specs.Sizes.{pair_bytes}
use Rattle.livevar_transform.specs.PlanLaws.{after_part}
use Rattle.livevar_transform.proofs.plan.LiveSheet.after.Goals as goal

pub returns : goal.returns
returns c = c.set_in.ensures ∙ after_part c.args.self.info.now (pair_bytes * c.args.k)
