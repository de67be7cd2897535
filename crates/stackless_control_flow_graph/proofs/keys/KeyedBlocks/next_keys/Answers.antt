use Rattle.std.proofs.Common.{◌∙◌}
use Rattle.stackless_control_flow_graph.specs.CheckedSheetLaws.{checked_sound}
use Rattle.stackless_control_flow_graph.specs.FlowLaws.{next_start}
use Rattle.stackless_control_flow_graph.specs.KeyInLaws.{keys_are}
use Rattle.stackless_control_flow_graph.proofs.keys.KeyedBlocks.next_keys.Goals as goal

pub returns : goal.returns
returns c =
    let b = c.args.self in
    c.keys_of.ensures ∙ keys_are _ _ b.keyed c.next.ensures.next (λ o i. next_start _ (checked_sound b.by_offset.sheet.checked) _ o c.requires i)
