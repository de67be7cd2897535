use Rattle.std.proofs.Common.{ap, ◌∙◌, take_all, rules}
use Rattle.dataflow_domains.specs.Mask.{set_of}
use Rattle.livevar_analysis.specs.DecodeLaws.{set_of_more}
use Rattle.livevar_analysis.proofs.rules.set_of.Goals as goal

pub loop-local-init : goal.loop-local-init
unfolding set_of
loop-local-init c = search rules

pub loop-local-preserved : goal.loop-local-preserved
loop-local-preserved c =
    c.insert-set.ensures ∙ set_of_more c.args.list.now c.loop-local.local-index _ c.loop-local-test.true c.loop-local.invariant

pub returns : goal.returns
returns c = c.loop-local.invariant ∙ ap set_of (take_all c.loop-local.local-index c.args.list.now c.loop-local-test.false)
