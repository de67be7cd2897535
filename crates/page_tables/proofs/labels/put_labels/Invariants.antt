use Rattle.std.proofs.Common.{◌≡◌}
use Rattle.sheet.specs.Code.{code_in}
use Rattle.listing.specs.Writer.{◌with_text◌}
use Rattle.pages.specs.Marks.{unnamed_to}
use Rattle.page_tables.proofs.labels.put_labels.Given as goal

abbrev pub invariant-loop-k : goal.invariant-loop-k
invariant-loop-k l = l.out ≡ l.initial.out with_text unnamed_to (code_in l.sheet) l.k
