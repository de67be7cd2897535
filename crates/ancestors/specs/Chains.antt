-- The triples that lead to a node, one behind the other: what the loop that chains them and the scan for parents say. Assumes nothing.
use Rattle.std.specs.Prelude.{◌≡◌, List, ℕ, suc, ◌+◌, ◌*◌, ◌/◌, ◌≤◌, ◌<◌, get_or, length}
use Rattle.base.specs.Sizes.{max_locals}

-- the nodes of triple i
abbrev pub parent_at : List ℕ → ℕ → ℕ
parent_at xs i = get_or xs (3 * i) 0

abbrev pub child_at : List ℕ → ℕ → ℕ
child_at xs i = get_or xs (3 * i + 1) 0

-- j is the first triple from i on that leads to x, or behind the last where none does
pub record NextFrom (xs : List ℕ) (x i j : ℕ) : Type 0 where
  pub from : i ≤ j
  pub fits : j ≤ length xs / 3
  pub other : (t : ℕ) → i ≤ t → t < j → child_at xs t ≡ x → ⊥
  pub own : j < length xs / 3 → child_at xs j ≡ x

-- for each triple from i on, the next that leads to the same node
pub record Chained (xs : List ℕ) (i : ℕ) (next : List ℕ) : Type 0 where
  pub long : length xs / 3 ≤ length next
  pub each : (t : ℕ) → i ≤ t → t < length xs / 3 → NextFrom xs (child_at xs t) (suc t) (get_or next t 0)

-- for each node, the first from i on that leads to it
pub record Firsts (xs : List ℕ) (i : ℕ) (first : List ℕ) : Type 0 where
  pub long : length first ≡ max_locals
  pub each : (x : ℕ) → x < max_locals → NextFrom xs x i (get_or first x 0)
