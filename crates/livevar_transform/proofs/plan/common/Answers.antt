use Rattle.livevar_transform.specs.LostLaws.{common_by}
use Rattle.livevar_transform.proofs.plan.common.Goals as goal

pub returns : goal.returns
returns c = common_by _ _ _ _ c.without.ensures c.without-2.ensures
