use Rattle.std.proofs.Common.{◌≡◌, ◌≤◌, length, List}
use Rattle.stackless_bytecode.specs.declared.Bytecode.{Bytecode}
use Rattle.stackless_control_flow_graph.specs.Arrays.{Marked}
use Rattle.stackless_control_flow_graph.specs.OffsetLaws.{Upping}
use Rattle.stackless_control_flow_graph.proofs.blocks.find_uppers.Given as goal

abbrev pub invariant-loop-k : goal.invariant-loop-k
invariant-loop-k l = (l.k ≤ l.end) × (l.end ≤ l.n) × ((code : List Bytecode) → length code ≡ l.n → Marked code l.marks → Upping code l.uppers l.k l.end)
