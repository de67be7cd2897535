use Rattle.std.proofs.Common.{◌≡◌, ◌≤◌, ◌<◌, ℕ, get_or, length, List}
use Rattle.stackless_bytecode.specs.declared.Bytecode.{Bytecode}
use Rattle.stackless_bytecode.specs.Sound.{Sound}
use Rattle.stackless_control_flow_graph.specs.Arrays.{key_in}
use Rattle.stackless_control_flow_graph.specs.Blocks.{keyed}
use Rattle.stackless_control_flow_graph.specs.SpreadLaws.{Spreading}
use Rattle.stackless_control_flow_graph.proofs.keys.spread_in.Given as goal

abbrev pub invariant-loop-k : goal.invariant-loop-k
invariant-loop-k l = record {
  rest : (j : ℕ) → l.k ≤ j → get_or l.keys j 0 ≡ get_or l.initial.keys j 0;
  front : (code : List Bytecode) → Sound code → length code ≡ l.n → ((o : ℕ) → o < length code → get_or l.initial.keys o 0 ≡ key_in (keyed code) o) → Spreading code l.keys l.k l.last;
}
