use Rattle.std.proofs.Common.{sym, ◌∙◌}
use Rattle.stackless_control_flow_graph.specs.RowLaws.{next_exit, next_other}
use Rattle.flow_table.proofs.rows.successor_keys_in.Goals as goal

pub returns-then-is_exit : goal.returns-then-is_exit
returns-then-is_exit c =
    let a = c.args in
    sym (next_exit a.sheet.now a.goes.now a.keys.now a.upper c.instruction_at.ensures (sym c.is_exit.ensures ∙ c.if-is_exit.true))

pub returns : goal.returns
returns c =
    let a = c.args in
    c.keys_in.ensures ∙ sym (next_other a.sheet.now a.goes.now a.keys.now a.upper c.instruction_at.ensures (sym c.is_exit.ensures ∙ c.if-is_exit.false))
