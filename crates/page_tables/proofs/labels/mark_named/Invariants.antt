use Rattle.std.proofs.Common.{◌≡◌, length}
use Rattle.base.specs.Sizes.{max_instructions}
use Rattle.sheet.specs.Code.{code_in}
use Rattle.pages.specs.Marks.{MarkedTo}
use Rattle.page_tables.proofs.labels.mark_named.Given as goal

abbrev pub invariant-loop-e : goal.invariant-loop-e
invariant-loop-e l = MarkedTo (code_in l.sheet) l.sheet.targets.now l.e l.marks × (length l.marks ≡ max_instructions)
