-- Check 5 one place a turn, and one list after the other. Assumes nothing.
use Rattle.std.specs.Prelude.{◌≡◌, Bool, true, false, not, ◌||◌, ◌&&◌, List, ◌++◌, ℕ, suc, ◌+◌, ◌≤◌, ◌<◌, ltb, get_or, length, take, drop}
use Rattle.std.proofs.Common.{sym, ap, ap₂, ◌∙◌, add-one, arith, lt-ltb, le-ltb, length-take, drop_of_length-le, drop-cons, get_or-take}
use Rattle.std.proofs.lemmas.List.Folds.{list_all-append}
use Rattle.base.specs.Lists.{all}
use Rattle.stackless_bytecode.specs.declared.Bytecode.{Bytecode}
use Rattle.stackless_bytecode.specs.Kinds.{dsts_of, srcs_of, is_flagged}
use Rattle.sheet.specs.Checks.{locals_ok}

-- ---- `all`, one element a turn

pub all_more : (f : ℕ → Bool) (xs : List ℕ) (i : ℕ) → i < length xs → f (get_or xs i 0) ≡ true → all f (drop i xs) ≡ all f (drop (i + 1) xs)
all_more f xs i h e =
    ap (all f) (drop-cons xs i 0 h) ∙ ap (λ (b : Bool). b && all f (drop (suc i) xs)) e ∙ ap (λ (k : ℕ). all f (drop k xs)) (sym (add-one i))

pub all_stop : (f : ℕ → Bool) (xs : List ℕ) (i : ℕ) → i < length xs → f (get_or xs i 0) ≡ false → all f (drop i xs) ≡ false
all_stop f xs i h e = ap (all f) (drop-cons xs i 0 h) ∙ ap (λ (b : Bool). b && all f (drop (suc i) xs)) e

pub all_end : (f : ℕ → Bool) (xs : List ℕ) (i : ℕ) → length xs ≤ i → all f (drop i xs) ≡ true
all_end f xs i h = ap (all f) (drop_of_length-le xs h)

-- ---- the first `count` places of a list, one a turn

module _ (n count : ℕ) (xs : List ℕ) (fits : count ≤ length xs) where
  here : (i : ℕ) → i < count → i < length (take count xs)
  here i h = omega (arith, length-take count xs)

  pub below_more : (i : ℕ) → i < count → get_or xs i 0 < n → all (λ x. ltb x n) (drop i (take count xs)) ≡ all (λ x. ltb x n) (drop (i + 1) (take count xs))
  below_more i h l =
      all_more (λ x. ltb x n) (take count xs) i (here i h) (ap (λ (x : ℕ). ltb x n) (get_or-take count xs i 0 h) ∙ lt-ltb _ _ l)

  pub below_stop : (i : ℕ) → i < count → n ≤ get_or xs i 0 → all (λ x. ltb x n) (drop i (take count xs)) ≡ false
  below_stop i h l =
      all_stop (λ x. ltb x n) (take count xs) i (here i h) (ap (λ (x : ℕ). ltb x n) (get_or-take count xs i 0 h) ∙ le-ltb _ _ l)

  pub below_end : (i : ℕ) → count ≤ i → all (λ x. ltb x n) (drop i (take count xs)) ≡ true
  below_end i h = all_end (λ x. ltb x n) (take count xs) i (omega (arith, length-take count xs))

-- ---- one list after the other

all_append : (f : ℕ → Bool) (xs ys : List ℕ) → all f (xs ++ ys) ≡ all f xs && all f ys
all_append f xs ys = list_all-append f xs ys

-- one list after the other, and the abort local
pub locals_ok_lem : (n : ℕ) (r : Bytecode) → locals_ok n r ≡ (all (λ x. ltb x n) (take r.ndst r.dsts) && all (λ x. ltb x n) (take r.nsrc r.srcs) && (not (is_flagged r) || ltb r.abort n))
unfolding locals_ok dsts_of srcs_of
locals_ok_lem n r = ap (λ (b : Bool). b && (not (is_flagged r) || ltb r.abort n)) (all_append (λ x. ltb x n) (take r.ndst r.dsts) (take r.nsrc r.srcs))

-- from what its lists and its flag give
pub locals_are : (n : ℕ) (r : Bytecode) {a b f : Bool} → all (λ x. ltb x n) (take r.ndst r.dsts) ≡ a → all (λ x. ltb x n) (take r.nsrc r.srcs) ≡ b → is_flagged r ≡ f
    → locals_ok n r ≡ a && b && (not f || ltb r.abort n)
unfolding locals_ok dsts_of srcs_of
locals_are n r {a} {b} {f} ea eb ef =
    ap₂ (λ (x y : Bool). x && (not y || ltb r.abort n)) (all_append (λ x. ltb x n) (take r.ndst r.dsts) (take r.nsrc r.srcs) ∙ ap₂ ◌&&◌ ea eb) ef
