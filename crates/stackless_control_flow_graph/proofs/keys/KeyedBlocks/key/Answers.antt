use Rattle.std.proofs.Common.{rules}
use Rattle.stackless_control_flow_graph.specs.BlockLaws.{keyed_in}
use Rattle.stackless_control_flow_graph.proofs.keys.KeyedBlocks.key.Goals as goal

pub number_of-requires : goal.number_of-requires
number_of-requires c = (search rules, rw c.args.self.keyed (keyed_in _ _ c.requires))
