use Rattle.std.proofs.Common.{◌≡◌, ◌≤◌, take}
use Rattle.stackless_control_flow_graph.specs.Arrays.{marked_in}
use Rattle.stackless_control_flow_graph.proofs.blocks.list_lowers.Given as goal

abbrev pub invariant-loop-k : goal.invariant-loop-k
invariant-loop-k l = (l.c ≤ l.k) × (take l.c l.lowers ≡ marked_in l.marks l.k)
