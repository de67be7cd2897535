-- The test of an element, over the operations on sets. Assumes nothing.
use Rattle.std.specs.Prelude.{◌≡◌, refl, List, [], ◌∷◌, Bool, true, false, ◌||◌, ◌&&◌, not, ℕ, zero, suc, ◌-◌, ◌^◌, ◌<◌, max, eqb}
use Rattle.std.proofs.Common.{sym, ap, ap₂, ◌∙◌, arith, eqb-true, eq-eqb, ne_eqb}
use Rattle.std.proofs.lemmas.Bool.{eqb-false}
use Rattle.base.specs.Lists.{has}
use Rattle.base.specs.ListLaws.{by_test, by_eq}
use Rattle.dataflow_domains.specs.Mask.{bit, holds, union, minus, set_of}
use Rattle.dataflow_domains.specs.MaskLaws.{bit_lt, bit_union, bit_minus, bit_empty, bit_self, bit_other, ext}

-- ---- the test of an element

pub holds_true : (m i : ℕ) → holds m i ≡ true → bit m i ≡ 1
unfolding holds
holds_true m i e = eqb-true (bit m i) 1 e

pub holds_false : (m i : ℕ) → holds m i ≡ false → bit m i ≡ 0
unfolding holds
holds_false m i e = omega (arith, bit_lt m i, eqb-false (bit m i) 1 e)

pub true_holds : (m i : ℕ) → bit m i ≡ 1 → holds m i ≡ true
unfolding holds
true_holds m i e = eq-eqb (bit m i) 1 e

pub false_holds : (m i : ℕ) → bit m i ≡ 0 → holds m i ≡ false
unfolding holds
false_holds m i e = ap (λ (x : ℕ). eqb x 1) e

pub holds_same : (a b i : ℕ) → bit a i ≡ bit b i → holds a i ≡ holds b i
unfolding holds
holds_same a b i e = ap (λ (x : ℕ). eqb x 1) e

-- the union: in one of the two
pub holds_union : (a b i : ℕ) → holds (union a b) i ≡ holds a i || holds b i
unfolding holds
holds_union a b i = ap (λ (x : ℕ). eqb x 1) (bit_union a b i) ∙ either (bit a i) (bit b i) (bit_lt a i) (bit_lt b i)
  where
    either : (x y : ℕ) → x < 2 → y < 2 → eqb (max x y) 1 ≡ eqb x 1 || eqb y 1
    either zero zero hx hy = refl
    either zero (suc zero) hx hy = refl
    either (suc zero) zero hx hy = refl
    either (suc zero) (suc zero) hx hy = refl
    either zero (suc (suc y)) hx hy = absurd (omega arith)
    either (suc zero) (suc (suc y)) hx hy = absurd (omega arith)
    either (suc (suc x)) y hx hy = absurd (omega arith)

-- the difference: in the first and not in the second
pub holds_minus : (a b i : ℕ) → holds (minus a b) i ≡ holds a i && not (holds b i)
unfolding holds
holds_minus a b i = ap (λ (x : ℕ). eqb x 1) (bit_minus a b i) ∙ less (bit a i) (bit b i) (bit_lt a i) (bit_lt b i)
  where
    less : (x y : ℕ) → x < 2 → y < 2 → eqb (x - y) 1 ≡ eqb x 1 && not (eqb y 1)
    less zero zero hx hy = refl
    less zero (suc zero) hx hy = refl
    less (suc zero) zero hx hy = refl
    less (suc zero) (suc zero) hx hy = refl
    less zero (suc (suc y)) hx hy = absurd (omega arith)
    less (suc zero) (suc (suc y)) hx hy = absurd (omega arith)
    less (suc (suc x)) y hx hy = absurd (omega arith)

-- the set of one: that one
pub holds_single : (x i : ℕ) → holds (2 ^ x) i ≡ eqb i x
holds_single x i =
    by_eq i x (λ e. true_holds (2 ^ x) i (ap (bit (2 ^ x)) e ∙ bit_self x) ∙ sym (eq-eqb i x e))
    (λ g. false_holds (2 ^ x) i (bit_other x i (λ e. g (sym e))) ∙ sym (ne_eqb i x g))

-- the set of a list: the numbers in it
pub holds_set_of : (xs : List ℕ) (i : ℕ) → holds (set_of xs) i ≡ has i xs
unfolding set_of
holds_set_of [] i = false_holds 0 i (bit_empty i)
holds_set_of (x ∷ xs) i =
    holds_union (2 ^ x) (set_of xs) i ∙ ap₂ (λ (a b : Bool). a || b) (holds_single x i) (holds_set_of xs i)

-- two masks with the same elements are equal
pub same_holds : (a b : ℕ) → ((i : ℕ) → holds a i ≡ holds b i) → a ≡ b
same_holds a b h = ext a b (λ i. by_test (λ t. holds a i ≡ t → holds b i ≡ t → bit a i ≡ bit b i) (holds a i)
    (λ e p q. holds_true a i p ∙ sym (holds_true b i q)) (λ e p q. holds_false a i p ∙ sym (holds_false b i q)) refl (sym (h i)))

-- an element put in: it is there, and the others are as they were
pub holds_insert : (m c : ℕ) → holds (union m (2 ^ c)) c ≡ true
holds_insert m c = true_holds (union m (2 ^ c)) c (omega (arith, bit_union m (2 ^ c) c, bit_self c, bit_lt m c))

pub holds_insert_other : (m c k : ℕ) → (k ≡ c → ⊥) → holds (union m (2 ^ c)) k ≡ holds m k
holds_insert_other m c k g = holds_same (union m (2 ^ c)) m k (omega (arith, bit_union m (2 ^ c) k, bit_other c k (λ e. g (sym e))))
