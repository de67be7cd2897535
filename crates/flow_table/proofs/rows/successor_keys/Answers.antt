use Rattle.std.proofs.Common.{◌≡◌, false}
use Rattle.stackless_bytecode.specs.Kinds.{at, is_exit}
use Rattle.stackless_control_flow_graph.specs.Blocks.{upper_of}
use Rattle.sheet.specs.Code.{code_in}
use Rattle.flow_table.proofs.rows.successor_keys.Goals as goal

pub returns-then-is_exit : goal.returns-then-is_exit
returns-then-is_exit c = rw (← c.upper.ensures.upper, ← c.from-upper.ensures, ← c.instruction.ensures, ← c.is_exit.ensures, c.if-is_exit.true)

pub returns : goal.returns
returns c =
    let code = code_in c.args.blocks.by_offset.sheet in
    let exits : is_exit (at code (upper_of code c.args.lower)) ≡ false = rw (← c.upper.ensures.upper, ← c.from-upper.ensures, ← c.instruction.ensures, ← c.is_exit.ensures) c.if-is_exit.false in
    rw exits c.next_keys.ensures
