use Rattle.std.proofs.Common.{◌≡◌, []}
use Rattle.sheet.specs.Code.{code_in}
use Rattle.pages.specs.Marks.{unnamed_to}
use Rattle.page_tables.proofs.labels.all_named.Given as goal

abbrev pub invariant-loop-k : goal.invariant-loop-k
invariant-loop-k l = unnamed_to (code_in l.sheet) l.k ≡ []
