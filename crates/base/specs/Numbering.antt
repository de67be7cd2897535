-- Numbers in the order of first mention: what the arrays hold in which they are given. Assumes nothing.
use Rattle.std.specs.Prelude.{◌≡◌, cond, ℕ, suc, ◌+◌, ◌≤◌, ◌<◌, get_or, length, take, List, Option, Some, None}
use mathlib.Core.List.{Memᴰ}
use Rattle.base.specs.Sizes.{max_number}
use Rattle.base.specs.Lists.{has, place, firsts, Distinct}

-- ---- lent arrays

-- the number of x, from `first` on, where those of xs have numbers, and 0 where it has none
unfoldable pub number_in : ℕ → List ℕ → ℕ → ℕ
number_in first xs x = cond (has x xs) (first + place x xs) 0

-- the first c of `order` have numbers, and each its own in `numbers`
pub record Numbers (first : ℕ) (numbers order : List ℕ) (c : ℕ) : Type 0 where
  pub each : (x : ℕ) → x < length numbers → get_or numbers x 0 ≡ number_in first (take c order) x
  pub once : Distinct (take c order)
  pub within : (x : ℕ) → Memᴰ x (take c order) → x < length numbers
  pub inside : c ≤ length order

-- numbers for these, in their order, to those that have none yet
pub record Gives (first : ℕ) (xs numbers order : List ℕ) (c : ℕ) (numbers' order' : List ℕ) (r : ℕ) : Type 0 where
  pub given : Numbers first numbers' order' r
  pub front : take r order' ≡ firsts (take c order) xs

-- ---- a `Numbering`

-- the number of x, where those of xs have the numbers from `first` on
unfoldable pub number_of : ℕ → List ℕ → ℕ → Option ℕ
number_of first xs x = cond (has x xs) (Some (first + place x xs)) None

-- what is kept for x: one more than its number, and 0 where it has none
unfoldable pub kept_of : ℕ → List ℕ → ℕ → ℕ
kept_of first xs x = cond (has x xs) (suc (first + place x xs)) 0

-- what a `Numbering` from `first` on, of numbers below n, holds: what is kept for each, and the c that have numbers, in the order of these
pub record Numbered (first n : ℕ) (numbers order : List ℕ) (c : ℕ) : Type 0 where
  pub each : (x : ℕ) → x < n → get_or numbers x 0 ≡ kept_of first (take c order) x
  pub once : Distinct (take c order)
  pub within : (x : ℕ) → Memᴰ x (take c order) → x < n
  pub inside : c ≤ n
  pub room : length numbers ≡ n
  pub places : length order ≡ n
  pub few : first + n ≤ max_number
