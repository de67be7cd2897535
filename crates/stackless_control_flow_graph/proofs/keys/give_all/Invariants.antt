use Rattle.std.proofs.Common.{◌≡◌, []}
use Rattle.base.specs.Lists.{firsts}
use Rattle.sheet.specs.Code.{code_in}
use Rattle.stackless_control_flow_graph.specs.KeyLaws.{takers}
use Rattle.stackless_control_flow_graph.proofs.keys.give_all.Given as goal

abbrev pub invariant-loop-lower : goal.invariant-loop-lower
invariant-loop-lower l = l.keys ≡ firsts [] (takers (code_in l.blocks.sheet) l.lower-index)
