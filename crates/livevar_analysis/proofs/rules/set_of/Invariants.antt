use Rattle.std.proofs.Common.{◌≡◌, take}
use Rattle.dataflow_domains.specs.Mask.{set_of}
use Rattle.dataflow_domains.specs.Sets.{mask}
use Rattle.livevar_analysis.proofs.rules.set_of.Given as goal

abbrev pub invariant-loop-local : goal.invariant-loop-local
invariant-loop-local l = mask l.set ≡ set_of (take l.local-index l.list)
