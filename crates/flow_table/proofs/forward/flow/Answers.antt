use Rattle.std.proofs.Common.{ℕ, ◌*◌, ◌≤◌, ◌≡◌, Ok, length, arith}
use Rattle.base.specs.Refusals.{answer_of}
use Rattle.base.specs.Sizes.{row_numbers}
use Rattle.sheet.specs.Code.{code_in}
use Rattle.sheet.specs.declared.accepted.ResolvedSheet.{ResolvedSheet}
use Rattle.stackless_control_flow_graph.specs.Blocks.{blocks_of, flow_reply}
use Rattle.base.specs.ReplyLaws.{refuses, done_result}
use Rattle.stackless_control_flow_graph.specs.CallLaws.{flow_short, flow_done}
use Rattle.stackless_control_flow_graph.specs.FlowMeaningLaws.{flow_means}
use Rattle.flow_table.proofs.forward.flow.Goals as goal

pub returns-then-table-count-clause-result : goal.returns-then-table-count-clause-result
returns-then-table-count-clause-result c =
    let sheet = c.in_ok-sheet.sheet in
    let t = c.table_of-count in
    rw (← c.in_ok-sheet.ensures.accepted) (refuses c.args.table.now (flow_short sheet.bytes.now (length c.args.table.now) sheet.checked.accepted (omega (arith, t.ensures.result)))).result

-- there is room for all rows
done : (sheet : ResolvedSheet) (lent m : ℕ) → m ≡ blocks_of (code_in sheet) → row_numbers * m ≤ lent → Ok m ≡ answer_of (flow_reply sheet.bytes.now lent)
done sheet lent m is h = done_result is (flow_done sheet.bytes.now lent sheet.checked.accepted (omega (arith, is)))

pub returns-clause-result : goal.returns-clause-result
returns-clause-result c = rw (← c.in_ok-sheet.ensures.accepted) (done c.in_ok-sheet.sheet _ _ c.table_of-count.ensures.result (omega arith))

pub returns-clause-meaning : goal.returns-clause-meaning
returns-clause-meaning c =
    let sheet = c.in_ok-sheet.sheet in
    let t = c.table_of-count.ensures in
    rw (← c.in_ok-sheet.ensures.accepted) (flow_means sheet.bytes.now c.args.table.now _ _ sheet.checked.accepted (done sheet (length c.args.table.now) _ t.result (omega arith)) t.written)
