-- A text written at a place of a lent slice. Assumes nothing.
use Rattle.std.specs.Prelude.{◌≡◌, List, ◌++◌, ℕ, ◌+◌, ◌≤◌, length, take, drop}

-- `text` stands from `at` on and ends at `end`; all else is as it was
pub record Put (old : List ℕ) (at : ℕ) (text new : List ℕ) (end : ℕ) : Type 0 where
  pub is : new ≡ take at old ++ (text ++ drop end old)
  pub ends : end ≡ at + length text
  pub inside : end ≤ length old
