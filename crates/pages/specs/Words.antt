-- Words, and numbers behind words. Assumes nothing.
use Rattle.std.specs.Prelude.{ℕ, cond, List, [], ◌++◌, eqb, get_or}
use Rattle.base.specs.Lists.{gather}
use Rattle.listing.specs.Words.{said}

-- word i of a list, and nothing where it has none
abbrev pub word : ℕ → List (List ℕ) → List ℕ
word i words = get_or words i []

-- a word and a number, and nothing where the number is 0
unfoldable pub marked : List ℕ → ℕ → List ℕ
marked w x = cond (eqb x 0) [] (said w x)

-- each number with one word before it and one behind it
unfoldable pub listed : List ℕ → List ℕ → List ℕ → List ℕ
listed before behind xs = gather (λ x. said before x ++ behind) xs
