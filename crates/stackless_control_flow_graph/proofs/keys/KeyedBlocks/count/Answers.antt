use Rattle.std.proofs.Common.{ap, ◌∙◌, length, arith}
use Rattle.stackless_control_flow_graph.specs.CheckedSheetLaws.{checked_sound}
use Rattle.stackless_control_flow_graph.specs.FlowLaws.{keys_blocks}
use Rattle.stackless_control_flow_graph.proofs.keys.KeyedBlocks.count.Goals as goal

pub returns-clause-blocks : goal.returns-clause-blocks
returns-clause-blocks c = let b = c.args.self in omega (arith, keys_blocks _ (checked_sound b.by_offset.sheet.checked), ap length (c.order.ensures.order ∙ b.keyed))
