use Rattle.std.proofs.Common.{◌≡◌, true, ℕ, ◌<◌, ◌*◌}
use Rattle.base.specs.Sizes.{block_records}
use Rattle.sheet.specs.Checks.{place_ok}
use Rattle.sheet_form.proofs.records.first_bad_record.Given as goal

abbrev pub invariant-loop-b : goal.invariant-loop-b
invariant-loop-b l = (j : ℕ) → j < block_records * l.b → place_ok l.s j ≡ true
