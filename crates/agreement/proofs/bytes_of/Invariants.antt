-- The bytes of the first i numbers are at the front.
use Rattle.base.specs.WriteLaws.{wrote}
use Rattle.agreement.specs.Agree.{pairs}
use Rattle.std.proofs.Common.{◌*◌, ◌≡◌}
use Rattle.agreement.proofs.bytes_of.Given as goal

abbrev pub invariant-loop-i : goal.invariant-loop-i
invariant-loop-i l = l.out ≡ wrote l.initial.out (pairs l.table) (2 * l.i)
