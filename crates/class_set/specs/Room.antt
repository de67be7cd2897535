-- What the checks of the whole leave of a class set. Assumes nothing.
use Rattle.std.specs.Prelude.{List, ℕ, ◌*◌, ◌≤◌}
use Rattle.base.specs.Sizes.{max_sheets, slot_bytes, answer_numbers}
use Rattle.class_set.specs.ClassSet.{sheets_in}

-- few sheets, and room for each
pub record ClassRoom (s : List ℕ) (lent numbers : ℕ) : Type 0 where
  pub few : sheets_in s ≤ max_sheets
  pub sets : slot_bytes * sheets_in s ≤ lent
  pub answers : answer_numbers * sheets_in s ≤ numbers
