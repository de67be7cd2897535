-- What it means that a call answers as it is stored. Assumes nothing.
use Rattle.std.specs.Prelude.{ℕ, ◌%◌, ◌/◌, ◌≡◌, List, [], ◌∷◌, ◌++◌, length, take, drop}
use Rattle.base.specs.Refusals.{Reply, answer_of, output_after}
use Rattle.class_set.specs.ClassSet.{sets_reply, answers_reply}
use Rattle.c_api.specs.Packed.{packed}

-- the first `lent` elements of `out` are lent to a call: what `out` holds once it has replied, the rest as it was
abbrev pub after : Reply → ℕ → List ℕ → List ℕ
after r lent out = output_after r (take lent out) ++ drop lent out

-- the reply in one number is the stored result
abbrev pub SameResult : Reply → ℕ → Type 0
SameResult r result = packed (answer_of r) ≡ result

-- and all of `out`, what was lent and what not, then is what is wanted
pub record Agrees (r : Reply) (lent result : ℕ) (out want : List ℕ) : Type 0 where
  pub answer : SameResult r result
  pub output : after r lent out ≡ want

-- the two bytes of each number
unfoldable pub pairs : List ℕ → List ℕ
pairs [] = []
pairs (x ∷ xs) = x % 256 ∷ x / 256 ∷ pairs xs

-- xs at the front of d
abbrev pub at_front : List ℕ → List ℕ → List ℕ
at_front xs d = xs ++ drop (length xs) d

-- a table is lent, and its bytes are then written to the front of `out`
pub record AgreesPairs (r : Reply) (lent result : ℕ) (table out want : List ℕ) : Type 0 where
  pub answer : SameResult r result
  pub output : at_front (pairs (after r lent table)) out ≡ want

-- a class set, with the first `lent` bytes of `sets` and the first `numbers` of `answers` lent: all of both then is what is wanted
pub record AgreesClass (s : List ℕ) (lent numbers result : ℕ) (sets answers want numbered : List ℕ) : Type 0 where
  pub answer : SameResult (sets_reply s (take lent sets) numbers) result
  pub output : after (sets_reply s (take lent sets) numbers) lent sets ≡ want
  pub answered : after (answers_reply s lent numbers) numbers answers ≡ numbered
