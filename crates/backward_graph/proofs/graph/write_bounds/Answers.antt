use Rattle.stackless_control_flow_graph.specs.CheckedSheetLaws.{checked_sound}
use Rattle.stackless_control_flow_graph.specs.FlowLaws.{keyed_at}
use Rattle.backward_graph.proofs.graph.write_bounds.Goals as goal

pub upper-requires : goal.upper-requires
upper-requires c = (keyed_at _ (checked_sound c.args.blocks.by_offset.sheet.checked) _ _ c.lowers_by_key-lower-items.ensures.keyed c.loop-i-test.true).inside
