use Rattle.std.proofs.Common.{◌≡◌, length, List}
use Rattle.stackless_bytecode.specs.declared.Bytecode.{Bytecode}
use Rattle.stackless_bytecode.specs.Sound.{Sound}
use Rattle.stackless_control_flow_graph.specs.Blocks.{keyed}
use Rattle.stackless_control_flow_graph.specs.SpreadLaws.{Spreading}
use Rattle.stackless_control_flow_graph.proofs.keys.spread_keys.Given as goal

abbrev pub invariant-loop-k : goal.invariant-loop-k
invariant-loop-k g l = (code : List Bytecode) → Sound code → length code ≡ l.n → l.keys ≡ keyed code → Spreading code l.key_of_offset l.k l.last
