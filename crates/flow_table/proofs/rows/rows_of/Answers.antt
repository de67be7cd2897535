use Rattle.std.proofs.Common.{ℕ, List, ◌+◌, ◌-◌, ◌*◌, ◌++◌, ◌≡◌, ap₂, ◌∙◌, refl, arith, length, drop, take_all}
use Rattle.base.specs.Lists.{gather}
use Rattle.base.specs.Sizes.{row_numbers}
use Rattle.stackless_control_flow_graph.specs.Arrays.{row_in}
use Rattle.stackless_control_flow_graph.specs.RowLaws.{rows_in_more}
use Rattle.flow_table.proofs.rows.rows_of.Goals as goal

pub loop-b-init : goal.loop-b-init
loop-b-init c = refl

pub loop-b-preserved : goal.loop-b-preserved
loop-b-preserved c =
    let a = c.args in
    let b = c.loop-b.b in
    let six : row_numbers * b + row_numbers - row_numbers * b ≡ row_numbers = omega arith in
    rw six (rows_in_more a.sheet.now a.goes.now a.uppers.now a.keys.now a.lowers.now a.table.now b _ _ c.loop-b.table c.write_row_in.new.out (omega arith) c.block_at-block.ensures c.loop-b.invariant c.write_row_in.ensures)

pub returns : goal.returns
returns c =
    let a = c.args in
    let all : c.loop-b.b ≡ length a.lowers.now = omega arith in
    c.loop-b.invariant ∙ ap₂ (λ (ls : List ℕ) (n : ℕ). gather (row_in a.sheet.now a.goes.now a.uppers.now a.keys.now) ls ++ drop (row_numbers * n) a.table.now) (take_all c.loop-b.b a.lowers.now (omega arith)) all
