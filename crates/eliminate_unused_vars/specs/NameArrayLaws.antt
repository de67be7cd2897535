-- The arrays into which new numbers are put, one local after the other; and a number out of them. Assumes nothing.
use Rattle.std.specs.Prelude.{◌≡◌, refl, ℕ, suc, ◌+◌, ◌≤◌, ◌<◌, get_or, set, length, take, List, [], ◌∷◌, ◌++◌}
use Rattle.std.proofs.Common.{sym, ap, ◌∙◌, subst, arith, get_or-set_same, get_or-set_other, take_all}
use Rattle.std.proofs.lemmas.List.{take_more}
use Rattle.std.proofs.lemmas.Grind.{take-set_at}
use mathlib.Core.List.{Memᴰ}
use Rattle.base.specs.Sizes.{max_locals}
use Rattle.base.specs.Lists.{Distinct}
use Rattle.base.specs.ListLaws.{by_eq}
use Rattle.eliminate_unused_vars.specs.Remap.{new_number}
use Rattle.eliminate_unused_vars.specs.Names.{NameRoom, Named, NumbersIn}
use Rattle.sheet.specs.Layout.{user_locals_of, code_of}
use Rattle.eliminate_unused_vars.specs.Renumber.{staying_in}
use Rattle.eliminate_unused_vars.specs.StayingLaws.{stay_once, number_lt, number_of, number_at}

-- the first i of `stay` have their numbers in the arrays
pub record NamedTo (stay numbers order : List ℕ) (i : ℕ) : Type 0 where
  pub each : (j : ℕ) → j < i → get_or numbers (get_or stay j 0) 0 ≡ suc j
  pub front : take i order ≡ take i stay

pub named_none : (stay numbers order : List ℕ) → NamedTo stay numbers order 0
named_none stay numbers order = record { each = λ j h. absurd (omega arith); front = refl }

-- the next one
pub named_more : {stay numbers order : List ℕ} (i x v : ℕ) → Distinct stay → i < length stay → x ≡ get_or stay i 0 → v ≡ suc i → x < length numbers → i < length order → NamedTo stay numbers order i
    → NamedTo stay (set numbers x v) (set order i (get_or stay i 0)) (i + 1)
named_more {stay} {numbers} {order} i x v once h ex ev l m p = record { each = each; front = front }
  where
    other : (j : ℕ) → j < i → get_or stay j 0 ≡ x → ⊥
    other j k z = omega (arith, number_at j once (omega arith), number_at i once h, ap (new_number stay) (z ∙ ex))

    each : (j : ℕ) → j < i + 1 → get_or (set numbers x v) (get_or stay j 0) 0 ≡ suc j
    each j k =
        by_eq j i (λ e. ap (λ (y : ℕ). get_or (set numbers x v) y 0) (ap (λ (n : ℕ). get_or stay n 0) e ∙ sym ex) ∙ get_or-set_same numbers x v 0 l ∙ ev ∙ ap suc (sym e))
        (λ g. let low : j < i = omega arith in get_or-set_other numbers x (get_or stay j 0) v 0 (other j low) ∙ p.each j low)

    front : take (i + 1) (set order i (get_or stay i 0)) ≡ take (i + 1) stay
    front = take-set_at order i (i + 1) (get_or stay i 0) refl m ∙ ap (λ (l : List ℕ). l ++ (get_or stay i 0 ∷ [])) p.front ∙ sym (take_more stay i 0 h)

-- all
pub named_all : {stay numbers order : List ℕ} (i c : ℕ) → i ≡ length stay → c ≡ length stay → NameRoom numbers order → ((j : ℕ) → j < length stay → get_or stay j 0 < max_locals) → length stay ≤ max_locals → NamedTo stay numbers order i → Named stay numbers order c
named_all {stay} {numbers} {order} i c e ec room below few p = record {
  count = ec;
  front = ap (λ (n : ℕ). take n order) (ec ∙ sym e) ∙ p.front ∙ take_all i stay (omega arith);
  each = λ x m. ap (λ (y : ℕ). get_or numbers y 0) (sym (number_of stay x m)) ∙ p.each (new_number stay x) (omega (arith, number_lt stay x m));
  inside = λ x m. omega (arith, below (new_number stay x) (number_lt stay x m), number_of stay x m, room.numbers_long);
  few = few;
}

-- those of a sheet stand once each
pub once_in : (s xs : List ℕ) → xs ≡ staying_in s → Distinct xs
once_in s xs e = subst (λ (l : List ℕ). Distinct l) (sym e) (stay_once (user_locals_of s) (code_of s))

-- ---- out of the arrays

-- the first alone
pub numbers_in : {stay numbers order : List ℕ} {c : ℕ} → Named stay numbers order c → NumbersIn stay numbers
numbers_in n = record { each = n.each; inside = n.inside; few = n.few }

-- what stands for x is small
pub name_small : {stay numbers : List ℕ} → NumbersIn stay numbers → (x : ℕ) → Memᴰ x stay → get_or numbers x 0 ≤ max_locals
name_small {stay} n x m = omega (arith, n.each x m, number_lt stay x m, n.few)
