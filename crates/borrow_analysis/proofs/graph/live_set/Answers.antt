use Rattle.std.proofs.Common.{arith}
use Rattle.dataflow_domains.specs.Sets.{mask}
use Rattle.dataflow_domains.specs.Words.{mask_of}
use Rattle.borrow_analysis.proofs.graph.live_set.Goals as goal

pub returns : goal.returns
unfolding mask mask_of
returns c = omega arith
