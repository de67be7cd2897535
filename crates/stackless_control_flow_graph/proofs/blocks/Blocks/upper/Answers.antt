use Rattle.std.proofs.Common.{arith}
use Rattle.sheet.specs.Code.{code_in}
use Rattle.stackless_control_flow_graph.specs.BlockLaws.{upper_lt}
use Rattle.stackless_control_flow_graph.proofs.blocks.Blocks.upper.Goals as goal

pub returns-clause-inside : goal.returns-clause-inside
returns-clause-inside c =
    let b = c.args.self in
    let k = c.from.result in
    omega (arith, b.found.upper.each k (omega arith), upper_lt (code_in b.sheet) k (omega arith))
