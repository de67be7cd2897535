-- What was written lies in the array.
use Rattle.std.proofs.Common.{length, ◌≤◌}
use Rattle.stored_cases.proofs.packed.unpack.Given as goal

abbrev pub invariant-loop-byte : goal.invariant-loop-byte
invariant-loop-byte l = (l.at ≤ length l.out) × (goal.iterator-loop-byte).can_next l.bytes × (goal.iterator-loop-byte).is_finite l.bytes
