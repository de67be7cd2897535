use Rattle.std.proofs.Common.{ap, ◌∙◌}
use Rattle.dataflow_domains.specs.Mask.{set_of}
use Rattle.stackless_bytecode.specs.Kinds.{dsts_of, srcs_of}
use Rattle.livevar_analysis.specs.DecodeLaws.{listed, decoded_call}
use Rattle.livevar_analysis.proofs.rules.call_rule.Goals as goal

pub set_of-out-requires : goal.set_of-out-requires
unfolding dsts_of
set_of-out-requires c = listed c.requires.in_range.dsts c.destinations.ensures

pub set_of-into-requires : goal.set_of-into-requires
unfolding srcs_of
set_of-into-requires c = listed c.requires.in_range.srcs c.sources.ensures

pub returns : goal.returns
returns c m =
    decoded_call _ _ _ m c.requires.call _ _ _ (c.set_of-out.ensures ∙ ap set_of c.destinations.ensures) (c.set_of-into.ensures ∙ ap set_of c.sources.ensures) c.gone-last.ensures c.union.ensures c.without.ensures
