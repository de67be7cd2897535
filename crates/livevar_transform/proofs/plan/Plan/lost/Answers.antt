use Rattle.std.proofs.Common.{refl}
use Rattle.dataflow_domains.specs.SetLaws.{mask_in}
use Rattle.livevar_transform.proofs.plan.Plan.lost.Goals as goal

pub returns : goal.returns
returns c = mask_in c.args.self.lost.now c.args.e _ refl
