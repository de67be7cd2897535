use Rattle.std.proofs.Common.{◌*◌, ◌++◌, ◌≡◌, take, drop}
use Rattle.base.specs.Lists.{gather}
use Rattle.base.specs.Sizes.{row_numbers}
use Rattle.stackless_control_flow_graph.specs.Arrays.{row_in}
use Rattle.flow_table.proofs.rows.rows_of.Given as goal

abbrev pub invariant-loop-b : goal.invariant-loop-b
invariant-loop-b l = l.table ≡ gather (row_in l.sheet l.goes l.uppers l.keys) (take l.b l.lowers) ++ drop (row_numbers * l.b) l.initial.table
