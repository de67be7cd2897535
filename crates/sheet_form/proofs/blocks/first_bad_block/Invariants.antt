use Rattle.std.proofs.Common.{◌≡◌, true, ℕ, ◌<◌}
use Rattle.sheet.specs.Checks.{block_ok}
use Rattle.sheet.specs.Layout.{block_at}
use Rattle.sheet_form.proofs.blocks.first_bad_block.Given as goal

abbrev pub invariant-loop-b : goal.invariant-loop-b
invariant-loop-b l = (j : ℕ) → j < l.b → block_ok (block_at l.s j) j ≡ true
