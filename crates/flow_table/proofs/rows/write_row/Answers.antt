use Rattle.std.proofs.Common.{ℕ, List, ap, get_or}
use Rattle.stackless_control_flow_graph.specs.Arrays.{offsets_of}
use Rattle.stackless_control_flow_graph.specs.Sorting.{block_slots}
use Rattle.stackless_control_flow_graph.specs.RowLaws.{row_put}
use Rattle.flow_table.proofs.rows.write_row.Goals as goal

pub returns : goal.returns
unfolding block_slots
returns c =
    let at = λ (k : ℕ). ap (λ (l : List ℕ). get_or l k 0) c.pair.ensures in
    row_put c.args.out.now _ (offsets_of c.successor_keys.result) c.args.lower c.upper.result _ _ _ c.requires.six c.upper.ensures.upper c.key.ensures c.successor_keys.ensures (at 0) (at 1)
