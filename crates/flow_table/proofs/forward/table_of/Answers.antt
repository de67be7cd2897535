use Rattle.std.proofs.Common.{length, arith}
use Rattle.base.specs.ReplyLaws.{refuses}
use Rattle.stackless_control_flow_graph.specs.CallLaws.{fill_output, flow_short}
use Rattle.flow_table.proofs.forward.table_of.Goals as goal

pub write_rows-requires : goal.write_rows-requires
write_rows-requires c = omega (arith, c.count-count.ensures.blocks)

pub returns-then-count-table-clause-written : goal.returns-then-count-table-clause-written
returns-then-count-table-clause-written c =
    let s = c.find_keys-blocks.result.by_offset.sheet in
    rw (← c.find_keys-blocks.ensures) (fill_output s.bytes.now c.args.table.now c.write_rows.new.table s.checked.accepted (omega (arith, c.count-count.ensures.blocks)) c.write_rows.ensures)

pub returns-else-count-table-clause-written : goal.returns-else-count-table-clause-written
returns-else-count-table-clause-written c =
    let s = c.find_keys-blocks.result.by_offset.sheet in
    rw (← c.find_keys-blocks.ensures) (refuses c.args.table.now (flow_short s.bytes.now (length c.args.table.now) s.checked.accepted (omega (arith, c.count-count.ensures.blocks)))).same
