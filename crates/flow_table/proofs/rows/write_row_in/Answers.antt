use Rattle.std.proofs.Common.{ℕ, List, refl, ap, get_or}
use Rattle.stackless_control_flow_graph.specs.Sorting.{block_slots}
use Rattle.stackless_control_flow_graph.specs.RowLaws.{row_from_put}
use Rattle.flow_table.proofs.rows.write_row_in.Goals as goal

pub returns : goal.returns
unfolding block_slots
returns c =
    let a = c.args in
    let at = λ (k : ℕ). ap (λ (l : List ℕ). get_or l k 0) c.pair-next.ensures in
    row_from_put a.out.now a.sheet.now a.goes.now a.keys.now _ a.block.lower a.block.upper _ _ _ _ c.requires.six refl refl c.successor_keys_in.ensures (at 0) (at 1)
