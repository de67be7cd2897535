-- The visits of the definition: the parents of a node, one visit, and that what is visited only grows. Assumes nothing.
use Rattle.std.specs.Prelude.{◌≡◌, Bool, cond, ◌||◌, eqb, refl, true, false, List, [], ◌∷◌, ℕ, zero, suc, ◌-◌, ◌^◌, ◌<◌}
use Rattle.std.proofs.Common.{ap, sym, ◌∙◌, subst, ⊎_elim, eq-eqb, eqb-true, length-append, arith}
use mathlib.Core.List.Memᴰ
use mathlib.Core.List.{Memᴰ}
use Rattle.std.specs.Int.Count.{ones}
use Rattle.std.proofs.Math.Pow.{pow-lt}
use Rattle.base.specs.Lists.{over}
use Rattle.base.specs.ListLaws.{by_test, or-false}
use Rattle.base.specs.TabLaws.{over_keeps}
use Rattle.dataflow_domains.specs.Mask.{holds}
use Rattle.dataflow_domains.specs.MaskLaws.{union_comm, ones_insert, sub_refl, sub_trans, sub_union_r, union_lt}
use Rattle.dataflow_domains.specs.HoldsLaws.{holds_false}
use Rattle.borrow_analysis.specs.declared.triples.Triple.{Triple}
use Rattle.borrow_analysis.specs.Borrows.{get_parents, VisitedNodes, list_node, collect_ancestors}
use Rattle.borrow_analysis.specs.Visiting.{ListedBelow, VisitsGrow}

-- ---- the parents of a node

pub in_parents : (ts : List Triple) (n p : ℕ) → Memᴰ p (get_parents ts n) → (t : Triple) × Memᴰ t ts × (t.child ≡ n) × (p ≡ t.parent)
unfolding get_parents
in_parents [] n p i = absurd (Memᴰ.not-nil i)
in_parents (t ∷ ts) n p i =
    by_test (λ b. Memᴰ p (cond b (t.parent ∷ get_parents ts n) (get_parents ts n)) → (u : Triple) × Memᴰ u (t ∷ ts) × (u.child ≡ n) × (p ≡ u.parent)) (eqb t.child n)
    (λ e m. ⊎_elim (λ s. (t, Memᴰ.head refl, eqb-true t.child n e, s)) (λ m'. later (in_parents ts n p m')) (Memᴰ.cases_cons m))
    (λ e m. later (in_parents ts n p m)) i
  where
    later : ((u : Triple) × Memᴰ u ts × (u.child ≡ n) × (p ≡ u.parent)) → (u : Triple) × Memᴰ u (t ∷ ts) × (u.child ≡ n) × (p ≡ u.parent)
    later r = (r.0, Memᴰ.tail r.1, r.2, r.3)

-- each is below what bounds the triples' parents
pub parents_small : (ts : List Triple) (c : ℕ) → ((t : Triple) → Memᴰ t ts → t.parent < c) → (n p : ℕ) → Memᴰ p (get_parents ts n) → p < c
parents_small ts c inside n p i = let r = in_parents ts n p i in omega (arith, inside r.0 r.1, r.3)

pub parents_in_lem : (ts : List Triple) (t : Triple) → Memᴰ t ts → Memᴰ t.parent (get_parents ts t.child)
unfolding get_parents
parents_in_lem [] t i = absurd (Memᴰ.not-nil i)
parents_in_lem (u ∷ us) t i =
    ⊎_elim
    (λ s. subst (λ (x : Triple). Memᴰ t.parent (cond (eqb x.child t.child) (x.parent ∷ get_parents us t.child) (get_parents us t.child))) s
    (subst (λ (b : Bool). Memᴰ t.parent (cond b (t.parent ∷ get_parents us t.child) (get_parents us t.child))) (sym (eq-eqb t.child t.child refl)) (Memᴰ.head refl)))
    (λ m. by_test (λ b. Memᴰ t.parent (cond b (u.parent ∷ get_parents us t.child) (get_parents us t.child))) (eqb u.child t.child)
    (λ e. Memᴰ.tail (parents_in_lem us t m)) (λ e. parents_in_lem us t m)) (Memᴰ.cases_cons i)

-- ---- one visit

module _ (ts : List Triple) (used : ℕ) (st : VisitedNodes) (n : ℕ) where
  pub collect_skip : (d : ℕ) → holds st.mask n || holds used n ≡ true → st ≡ collect_ancestors d ts used st n
  unfolding collect_ancestors
  collect_skip zero e = refl
  collect_skip (suc d) e =
      ap (λ (b : Bool). elim b as (λ _. VisitedNodes) [ true ↦ st | false ↦ over (collect_ancestors d ts used) (list_node st n) (get_parents ts n) ]) (sym e)

  pub collect_new : (d : ℕ) → 0 < d → holds st.mask n || holds used n ≡ false
      → over (collect_ancestors (d - 1) ts used) (list_node st n) (get_parents ts n) ≡ collect_ancestors d ts used st n
  unfolding collect_ancestors
  collect_new zero h e = absurd (omega arith)
  collect_new (suc d) h e =
      let less : suc d - 1 ≡ d = omega arith in
      ap (λ (k : ℕ). over (collect_ancestors k ts used) (list_node st n) (get_parents ts n)) less
      ∙ ap (λ (b : Bool). elim b as (λ _. VisitedNodes) [ true ↦ st | false ↦ over (collect_ancestors d ts used) (list_node st n) (get_parents ts n) ]) (sym e)

-- ---- what is visited grows

pub list_grows : {c : ℕ} (st : VisitedNodes) (n : ℕ) → ListedBelow c st → n < c → holds st.mask n ≡ false → VisitsGrow c st (list_node st n)
list_grows {c} st n w h e = record {
  fair = record {
    each = length-append st.listed (n ∷ []) ∙ omega (arith, w.each, ap ones (union_comm (2 ^ n) st.mask), ones_insert n st.mask (holds_false st.mask n e));
    small = union_lt c (2 ^ n) st.mask (pow-lt h) w.small;
  };
  has = sub_union_r (2 ^ n) st.mask;
}

module _ (ts : List Triple) (used c : ℕ) (inside : (t : Triple) → Memᴰ t ts → t.parent < c) where
  pub collect_grows : (d : ℕ) (st : VisitedNodes) (n : ℕ) → n < c → ListedBelow c st → VisitsGrow c st (collect_ancestors d ts used st n)
  unfolding collect_ancestors
  collect_grows zero st n h w = record { fair = w; has = sub_refl st.mask }
  collect_grows (suc d) st n h w =
      by_test (λ b. VisitsGrow c st (elim b [ true ↦ st | false ↦ over (collect_ancestors d ts used) (list_node st n) (get_parents ts n) ])) (holds st.mask n || holds used n)
      (λ e. record { fair = w; has = sub_refl st.mask })
      (λ e. over_keeps (VisitsGrow c st) (collect_ancestors d ts used) (get_parents ts n) (list_node st n)
      (λ s p i g. next g (collect_grows d s p (parents_small ts c inside n p i) g.fair)) (list_grows st n w h (or-false (holds st.mask n) (holds used n) e).0))
    where
      next : {a b : VisitedNodes} → VisitsGrow c st a → VisitsGrow c a b → VisitsGrow c st b
      next g k = record { fair = k.fair; has = sub_trans g.has k.has }
