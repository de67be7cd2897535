use Rattle.std.proofs.Common.{ℕ, List, ◌+◌, ◌-◌, ◌*◌, ◌≡◌, ap, refl, arith, get_or, length}
use Rattle.base.specs.Sizes.{row_numbers}
use Rattle.stackless_control_flow_graph.specs.FlowLaws.{lower_in}
use Rattle.stackless_control_flow_graph.specs.RowLaws.{rows_more, rows_end}
use Rattle.flow_table.proofs.rows.write_rows.Goals as goal

pub loop-b-init : goal.loop-b-init
loop-b-init c = refl

pub write_row-requires-clause-start : goal.write_row-requires-clause-start
write_row-requires-clause-start c = lower_in _ _ _ c.lowers-lower-items.ensures.lowers c.loop-b-test.true

pub loop-b-preserved : goal.loop-b-preserved
loop-b-preserved c =
    let b = c.loop-b.b in
    let is = c.lowers-lower-items.ensures.lowers in
    let six : row_numbers * b + row_numbers - row_numbers * b ≡ row_numbers = omega arith in
    rw six (rows_more _ c.args.table.now b _ c.loop-b.table c.write_row.new.out (omega (arith, ap length is)) (ap (λ (l : List ℕ). get_or l b 0) is) c.loop-b.invariant c.write_row.ensures)

pub returns : goal.returns
returns c = rows_end _ c.args.table.now c.loop-b.b _ (omega (arith, ap length c.lowers-lower-items.ensures.lowers)) c.loop-b.invariant
