-- The texts of Words, one word or number more. Assumes nothing.
use Rattle.std.specs.Prelude.{◌≡◌, refl, List, [], ◌∷◌, ◌++◌, ℕ, ◌+◌, ◌<◌, length, get_or, take}
use Rattle.std.proofs.Common.{sym, ap, ◌∙◌, append-nil, append_assoc, add-one, take-suc}
use Rattle.listing.specs.Words.{said}
use Rattle.pages.specs.Words.{listed}

pub listed_snoc : (a b xs : List ℕ) (x : ℕ) → listed a b (xs ++ (x ∷ [])) ≡ listed a b xs ++ (said a x ++ b)
unfolding listed
listed_snoc a b [] x = append-nil (said a x ++ b)
listed_snoc a b (y ∷ xs) x = ap (λ (l : List ℕ). (said a y ++ b) ++ l) (listed_snoc a b xs x) ∙ sym (append_assoc (said a y ++ b) (listed a b xs) (said a x ++ b))

pub listed_none : (a b xs : List ℕ) → listed a b (take 0 xs) ≡ []
unfolding listed
listed_none a b xs = refl

pub listed_more : (a b xs : List ℕ) (i : ℕ) → i < length xs → listed a b (take i xs) ++ (said a (get_or xs i 0) ++ b) ≡ listed a b (take (i + 1) xs)
listed_more a b xs i h = sym (ap (λ (n : ℕ). listed a b (take n xs)) (add-one i) ∙ ap (listed a b) (take-suc xs i 0 h) ∙ listed_snoc a b (take i xs) (get_or xs i 0))

pub ruleset listed_steps = (listed_none, listed_more)
