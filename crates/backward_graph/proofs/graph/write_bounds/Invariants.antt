use Rattle.std.proofs.Common.{◌≡◌, ℕ, ◌<◌, get_or}
use Rattle.stackless_control_flow_graph.specs.Blocks.{upper_of, keyed}
use Rattle.sheet.specs.Code.{code_in}
use Rattle.backward_graph.proofs.graph.write_bounds.Given as goal

abbrev pub invariant-loop-i : goal.invariant-loop-i
invariant-loop-i l = let code = code_in l.blocks.by_offset.sheet in record {
  low : (k : ℕ) → k < l.i → get_or l.lower_of_key k 0 ≡ get_or (keyed code) k 0;
  up : (k : ℕ) → k < l.i → get_or l.upper_of_key k 0 ≡ upper_of code (get_or (keyed code) k 0);
}
