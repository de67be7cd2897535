use Rattle.std.proofs.Common.{◌∙◌}
use Rattle.livevar_transform.specs.NewCodeLaws.{aimed_by}
use Rattle.transform_code.proofs.write.aim.Goals as goal

pub returns : goal.returns
returns c = c.with_labels.ensures ∙ aimed_by _ _ _ _ _ _ _ _ _ c.lost-then.ensures c.lost-other.ensures c.goes_to-one.ensures c.past-second.ensures c.goes_to-two.ensures
