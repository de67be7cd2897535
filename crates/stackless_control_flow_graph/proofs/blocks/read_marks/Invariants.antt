use Rattle.std.proofs.Common.{◌≡◌, ◌<◌, ℕ, false, get_or}
use Rattle.stackless_control_flow_graph.specs.Arrays.{marks_of}
use Rattle.stackless_control_flow_graph.proofs.blocks.read_marks.Given as goal

abbrev pub invariant-loop-k : goal.invariant-loop-k
invariant-loop-k l = (j : ℕ) → j < l.k → get_or l.marks j false ≡ get_or (marks_of l.bytes) j false
