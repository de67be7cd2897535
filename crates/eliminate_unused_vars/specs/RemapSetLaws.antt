-- Sets under the new numbers: which numbers are in one, and that sets of locals that stay are told apart. Assumes nothing.
use Rattle.std.specs.Prelude.{◌≡◌, refl, Bool, true, false, not, ◌||◌, ◌&&◌, ℕ, ◌^◌, ◌<◌, eqb, ltb, get_or, length, List, [], ◌∷◌, map}
use Rattle.std.proofs.Common.{sym, ap, ◌∙◌, subst, ⊎_elim, true≢false, arith, ltb-true, lt-ltb, eqb-true, eq-eqb, ne_eqb, ap₂}
use mathlib.Core.List.{Memᴰ}
use Rattle.base.specs.Lists.{keep, Distinct}
use Rattle.base.specs.ListLaws.{or-true, and-true, by_test, by_eq, has_in, find_in, in_keep}
use Rattle.dataflow_domains.specs.Mask.{holds, union, minus, set_of}
use Rattle.dataflow_domains.specs.MaskLaws.{bit_empty, set_of_lt}
use Rattle.dataflow_domains.specs.HoldsLaws.{false_holds, holds_union, holds_minus, holds_single, holds_set_of, same_holds}
use Rattle.eliminate_unused_vars.specs.Remap.{new_number, remap_set}
use Rattle.eliminate_unused_vars.specs.MoreListLaws.{has_keep}
use Rattle.eliminate_unused_vars.specs.StayingLaws.{number_lt, number_of, number_at}

holds_none : (i : ℕ) → holds 0 i ≡ false
holds_none i = false_holds 0 i (bit_empty i)

-- ---- sets of locals that stay

pub record Stays (stay : List ℕ) (m : ℕ) : Type 0 where
  pub each : (x : ℕ) → holds m x ≡ true → Memᴰ x stay

module _ (stay : List ℕ) where
  pub stays_none : Stays stay 0
  stays_none = record { each = λ x e. absurd (true≢false (sym e ∙ holds_none x)) }

  pub stays_union : (a b : ℕ) → Stays stay a → Stays stay b → Stays stay (union a b)
  stays_union a b p q = record { each = λ x e. ⊎_elim (p.each x) (q.each x) (or-true (holds a x) (holds b x) (sym (holds_union a b x) ∙ e)) }

  pub stays_minus : (a b : ℕ) → Stays stay a → Stays stay (minus a b)
  stays_minus a b p = record { each = λ x e. p.each x (and-true (holds a x) (not (holds b x)) (sym (holds_minus a b x) ∙ e)).0 }

  pub stays_set_of : (xs : List ℕ) → ((x : ℕ) → Memᴰ x xs → Memᴰ x stay) → Stays stay (set_of xs)
  stays_set_of xs h = record { each = λ x e. h x (has_in x xs (sym (holds_set_of xs x) ∙ e)) }

  -- ---- number by number

  -- i is in the new set where the local that has number i is in the old one
  pub remap_at : (m i : ℕ) → holds (remap_set stay m) i ≡ ltb i (length stay) && holds m (get_or stay i 0)
  unfolding remap_set
  remap_at m i = holds_set_of (keep (length stay) 0 (λ j. holds m (get_or stay j 0))) i ∙ has_keep (length stay) i (λ j. holds m (get_or stay j 0))

  -- it has no other numbers
  pub remap_narrow : (m : ℕ) → remap_set stay m < 2 ^ length stay
  unfolding remap_set
  remap_narrow m = set_of_lt (length stay) (keep (length stay) 0 _) (λ x i. let k = in_keep (length stay) 0 x _ i in omega (arith, k.high))

  -- a local that stays is in the new set where it is in the old one
  pub remap_of : (m x : ℕ) → Memᴰ x stay → holds (remap_set stay m) (new_number stay x) ≡ holds m x
  remap_of m x i =
      remap_at m (new_number stay x)
      ∙ ap₂ (λ (b : Bool) (y : ℕ). b && holds m y) (lt-ltb (new_number stay x) (length stay) (number_lt stay x i)) (number_of stay x i)

  pub remap_none : remap_set stay 0 ≡ 0
  remap_none = same_holds (remap_set stay 0) 0 (λ i. remap_at 0 i ∙ ap (λ (b : Bool). ltb i (length stay) && b) (holds_none (get_or stay i 0)) ∙ never (ltb i (length stay)) ∙ sym (holds_none i))
    where
      never : (t : Bool) → t && false ≡ false
      never true = refl
      never false = refl

  -- an operation that is done number by number
  remap_op : (op : ℕ → ℕ → ℕ) (f : Bool → Bool → Bool) → ((a b i : ℕ) → holds (op a b) i ≡ f (holds a i) (holds b i)) → ((t p q : Bool) → t && f p q ≡ f (t && p) (t && q))
      → (a b : ℕ) → remap_set stay (op a b) ≡ op (remap_set stay a) (remap_set stay b)
  remap_op op f by out a b =
      same_holds _ _ (λ i. let x = get_or stay i 0 in
      remap_at (op a b) i ∙ ap (λ (c : Bool). ltb i (length stay) && c) (by a b x) ∙ out (ltb i (length stay)) (holds a x) (holds b x)
      ∙ sym (by (remap_set stay a) (remap_set stay b) i ∙ ap₂ f (remap_at a i) (remap_at b i)))

  pub remap_union : (a b : ℕ) → remap_set stay (union a b) ≡ union (remap_set stay a) (remap_set stay b)
  remap_union = remap_op union (λ p q. p || q) holds_union both
    where
      both : (t p q : Bool) → t && (p || q) ≡ t && p || t && q
      both true p q = refl
      both false p q = refl

  pub remap_minus : (a b : ℕ) → remap_set stay (minus a b) ≡ minus (remap_set stay a) (remap_set stay b)
  remap_minus = remap_op minus (λ p q. p && not q) holds_minus both
    where
      both : (t p q : Bool) → t && (p && not q) ≡ (t && p) && not (t && q)
      both true p q = refl
      both false p q = refl

  -- two sets of locals that stay are as equal as the new ones
  pub remap_eqb : (a b : ℕ) → Stays stay a → Stays stay b → eqb (remap_set stay a) (remap_set stay b) ≡ eqb a b
  remap_eqb a b p q =
      by_eq a b (λ e. eq-eqb _ _ (ap (remap_set stay) e) ∙ sym (eq-eqb a b e))
      (λ g. ne_eqb _ _ (λ e. g (same_holds a b (λ x. at x (find_in x stay) e))) ∙ sym (ne_eqb a b g))
    where
      out : (m x : ℕ) → Stays stay m → (Memᴰ x stay → ⊥) → holds m x ≡ false
      out m x w h = by_test (λ b. b ≡ false) (holds m x) (λ t. absurd (h (w.each x t))) (λ t. refl)

      at : (x : ℕ) → Dec (Memᴰ x stay) → remap_set stay a ≡ remap_set stay b → holds a x ≡ holds b x
      at x (yes i) e = sym (remap_of a x i) ∙ ap (λ (m : ℕ). holds m (new_number stay x)) e ∙ remap_of b x i
      at x (no h) e = out a x p h ∙ sym (out b x q h)

  -- ---- the set of one local and of many

  module _ (once : Distinct stay) where
    pub remap_single : (x : ℕ) → Memᴰ x stay → remap_set stay (2 ^ x) ≡ 2 ^ new_number stay x
    remap_single x m =
        same_holds _ _ (λ i. remap_at (2 ^ x) i ∙ ap (λ (b : Bool). ltb i (length stay) && b) (holds_single x (get_or stay i 0)) ∙ at i ∙ sym (holds_single (new_number stay x) i))
      where
        at : (i : ℕ) → ltb i (length stay) && eqb (get_or stay i 0) x ≡ eqb i (new_number stay x)
        at i =
            by_test (λ b. b ≡ eqb i (new_number stay x)) (ltb i (length stay) && eqb (get_or stay i 0) x)
            (λ e. let both = and-true (ltb i (length stay)) (eqb (get_or stay i 0) x) e in
            sym (eq-eqb i (new_number stay x) (sym (number_at i once (ltb-true i (length stay) both.0)) ∙ ap (new_number stay) (eqb-true (get_or stay i 0) x both.1))))
            (λ e. sym (ne_eqb i (new_number stay x) (λ q. true≢false (sym (ap₂ (λ (a b : Bool). a && b) (lt-ltb i (length stay) (subst (λ (k : ℕ). k < length stay) (sym q) (number_lt stay x m))) (eq-eqb (get_or stay i 0) x (ap (λ (k : ℕ). get_or stay k 0) q ∙ number_of stay x m))) ∙ e))))

    pub remap_set_of : (xs : List ℕ) → ((x : ℕ) → Memᴰ x xs → Memᴰ x stay) → remap_set stay (set_of xs) ≡ set_of (map (new_number stay) xs)
    unfolding set_of
    remap_set_of [] h = remap_none
    remap_set_of (x ∷ xs) h =
        remap_union (2 ^ x) (set_of xs) ∙ ap₂ union (remap_single x (h x (Memᴰ.head refl))) (remap_set_of xs (λ y i. h y (Memᴰ.tail i)))
