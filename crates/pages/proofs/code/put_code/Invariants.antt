use Rattle.std.proofs.Common.{◌≡◌}
use Rattle.sheet.specs.Layout.{code_of}
use Rattle.listing.specs.Writer.{◌with_text◌}
use Rattle.pages.specs.Code.{code_lines}
use Rattle.pages.proofs.code.put_code.Given as goal

abbrev pub invariant-loop-k : goal.invariant-loop-k
invariant-loop-k l = l.out ≡ l.initial.out with_text code_lines (code_of l.sheet.bytes.now) l.k
