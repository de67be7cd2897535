use Rattle.std.proofs.Common.{◌*◌, ◌++◌, ◌≡◌, take, drop}
use Rattle.base.specs.Lists.{gather}
use Rattle.base.specs.Sizes.{row_numbers}
use Rattle.stackless_control_flow_graph.specs.Blocks.{lowers, keyed, row}
use Rattle.sheet.specs.Code.{code_in}
use Rattle.flow_table.proofs.rows.write_rows.Given as goal

abbrev pub invariant-loop-b : goal.invariant-loop-b
invariant-loop-b l = let code = code_in l.blocks.by_offset.sheet in l.table ≡ gather (row code (keyed code)) (take l.b (lowers code)) ++ drop (row_numbers * l.b) l.initial.table
