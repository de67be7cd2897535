-- What the arrays hold in which new numbers are given and looked up: one more than its new number by local, and the locals by new number. Assumes nothing.
use Rattle.std.specs.Prelude.{◌≡◌, ℕ, suc, ◌≤◌, ◌<◌, get_or, length, take, List}
use mathlib.Core.List.{Memᴰ}
use Rattle.base.specs.Sizes.{max_locals}
use Rattle.eliminate_unused_vars.specs.Remap.{new_number}

-- a place for each local in both
pub record NameRoom (numbers order : List ℕ) : Type 0 where
  pub numbers_long : length numbers ≡ max_locals
  pub order_long : length order ≡ max_locals

-- `stay` have the numbers, c of them
pub record Named (stay numbers order : List ℕ) (c : ℕ) : Type 0 where
  pub count : c ≡ length stay
  pub front : take c order ≡ stay
  pub each : (x : ℕ) → Memᴰ x stay → get_or numbers x 0 ≡ suc (new_number stay x)
  pub inside : (x : ℕ) → Memᴰ x stay → x < length numbers
  pub few : length stay ≤ max_locals

-- the same of the first array alone
pub record NumbersIn (stay numbers : List ℕ) : Type 0 where
  pub each : (x : ℕ) → Memᴰ x stay → get_or numbers x 0 ≡ suc (new_number stay x)
  pub inside : (x : ℕ) → Memᴰ x stay → x < length numbers
  pub few : length stay ≤ max_locals
