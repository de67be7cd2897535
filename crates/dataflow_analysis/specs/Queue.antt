-- The list as the code holds it: keys in a slice, and a cursor. Assumes nothing.
use Rattle.std.specs.Prelude.{◌≡◌, List, [], ◌∷◌, ◌++◌, ℕ, ◌+◌, ◌-◌, ◌≤◌, length, take, drop, Option, Some, None}
use Rattle.dataflow_analysis.specs.declared.Cursor.{Cursor}

-- ---- the list

-- the keys that wait
unfoldable pub waiting : List ℕ → Cursor → List ℕ
waiting q c = take c.len (drop c.head q)

-- the cursor past the first key
abbrev pub past_first : Cursor → Cursor
past_first c = record { head = c.head + 1; len = c.len - 1 }

-- the first of the keys that wait, and the cursor past it
abbrev pub taken_of : List ℕ → Cursor → Option (ℕ × Cursor)
taken_of [] c = None
taken_of (k ∷ ks) c = Some (k, past_first c)

-- key k waits behind the others, in q₁ from r on
pub record Queued (q : List ℕ) (c : Cursor) (k : ℕ) (q₁ : List ℕ) (r : Cursor) : Type 0 where
  pub queued : waiting q₁ r ≡ waiting q c ++ (k ∷ [])
  pub same_head : r.head ≡ c.head
  pub longer : r.len ≡ c.len + 1
  pub within : r.head + r.len ≤ length q₁
