use Rattle.std.proofs.Common.{◌≡◌}
use Rattle.base.specs.Bytes.{number}
use Rattle.listing.specs.Writer.{◌with_text◌}
use Rattle.pages.specs.Code.{locals_below}
use Rattle.pages.proofs.code.put_locals.Given as goal

abbrev pub invariant-loop-i : goal.invariant-loop-i
invariant-loop-i l = l.out ≡ l.initial.out with_text locals_below l.i (number l.p)
