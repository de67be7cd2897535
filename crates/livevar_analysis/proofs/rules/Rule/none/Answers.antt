use Rattle.livevar_analysis.specs.DecodeLaws.{applied_none}
use Rattle.livevar_analysis.proofs.rules.Rule.none.Goals as goal

pub returns : goal.returns
returns c m = applied_none _ _ m c.empty.ensures c.empty-2.ensures
