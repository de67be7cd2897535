use Rattle.std.proofs.Common.{ap, ◌∙◌}
use Rattle.sheet.specs.declared.accepted.ResolvedSheet.{ResolvedSheet}
use Rattle.stackless_control_flow_graph.specs.CheckedSheetLaws.{checked_sound}
use Rattle.backward_graph.proofs.graph.graph_into.Goals as goal

pub returns : goal.returns
returns c =
    let same = c.find_keys-blocks.ensures in
    let blocks = c.find_keys-blocks.result in
    let sheet = blocks.by_offset.sheet in
    rw (← same) (record {
      count = c.count-count.ensures.keys;
      bounds = c.write_bounds.ensures;
      keys = c.spread_keys.ensures _ (checked_sound sheet.checked) (sheet.size ∙ ap (λ (s : ResolvedSheet). s.count) same) blocks.keyed;
      leads = c.backward_edges.ensures;
    })
