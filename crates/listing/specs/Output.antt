-- A text written into a lent slice from a place on, as far as the slice goes. Assumes nothing.
use Rattle.std.specs.Prelude.{◌≡◌, cond, List, [], ◌∷◌, ℕ, suc, ltb, length, set}

-- a slice's bytes, and the next place to write
pub record Output : Type 0 where
  pub bytes : List ℕ
  pub next : ℕ

-- one byte more, if there is room
unfoldable pub store : Output → ℕ → Output
store o x = cond (ltb o.next (length o.bytes)) (record { bytes = set o.bytes o.next x; next = suc o.next }) o

-- a text
unfoldable pub write : Output → List ℕ → Output
write o [] = o
write o (x ∷ xs) = write (store o x) xs

-- what `text` written from `at` on leaves, and the place behind it
pub record Wrote (old : List ℕ) (at : ℕ) (text new : List ℕ) (end : ℕ) : Type 0 where
  pub is : write (record { bytes = old; next = at }) text ≡ record { bytes = new; next = end }
