use Rattle.livevar_transform.specs.NewCodeLaws.{target_then, target_else}
use Rattle.transform_code.proofs.write.target_of.Goals as goal

pub returns-then-e-eq0 : goal.returns-then-e-eq0
returns-then-e-eq0 c = target_then _ _ _ c.instruction-r.ensures c.if-e-eq0.true

pub returns : goal.returns
returns c = target_else _ _ _ c.instruction-r.ensures c.if-e-eq0.false
