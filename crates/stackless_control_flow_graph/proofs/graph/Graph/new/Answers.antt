use Rattle.std.proofs.Common.{◌+◌}
use Rattle.base.specs.ListLaws.{copies_at}
use Rattle.base.specs.Sizes.{max_instructions}
use Rattle.stackless_control_flow_graph.proofs.graph.Graph.new.Goals as goal

pub returns : goal.returns
returns c = λ k. copies_at (max_instructions + 5) k 0
