-- Which nodes the visits list: each once, none but those that the walk of dying nodes reaches, and all of these, at any depth from the count on. Assumes nothing.
use Rattle.std.specs.Prelude.{◌≡◌, refl, Bool, ◌||◌, true, false, List, [], ◌∷◌, ◌++◌, ℕ, zero, suc, ◌+◌, ◌^◌, ◌≤◌, ◌<◌}
use Rattle.std.proofs.Common.{ap, subst, sym, ◌∙◌, arith, inl, inr, ⊎_elim}
use mathlib.Core.List.Memᴰ
use mathlib.Core.List.{Memᴰ}
use Rattle.std.specs.Int.Count.{ones}
use Rattle.std.proofs.Math.Pow.{pow-lt}
use Rattle.base.specs.Lists.{over}
use Rattle.base.specs.ListLaws.{by_test, by_eq, or-false, or-true, distinct_snoc}
use Rattle.base.specs.TabLaws.{over_keeps}
use Rattle.dataflow_domains.specs.Mask.{bit, holds, union, Sub}
use Rattle.dataflow_domains.specs.MaskLaws.{union_comm, ones_insert, bit_union, bit_self, bit_other, bit_lt, sub_refl, sub_trans, sub_at, ones_mono, ones_bound, union_lt}
use Rattle.dataflow_domains.specs.HoldsLaws.{holds_true, holds_false, true_holds}
use Rattle.borrow_analysis.specs.declared.triples.Triple.{Triple}
use Rattle.borrow_analysis.specs.Borrows.{get_parents, VisitedNodes, list_node, collect_ancestors}
use Rattle.borrow_analysis.specs.Visiting.{ListedBelow, VisitsGrow, ListedOnce, AllListed, Settled, ParentsSettled, VisitedAll}
use Rattle.borrow_analysis.specs.AncestorLaws.{in_parents, parents_small, parents_in_lem, collect_skip, list_grows, collect_grows}

-- ---- each once: the list has the nodes of the mask

pub list_once : (st : VisitedNodes) (n : ℕ) → ListedOnce st → holds st.mask n ≡ false → ListedOnce (list_node st n)
list_once st n w e = record {
  distinct = distinct_snoc n (λ i. let h : bit st.mask n ≡ 0 = holds_false st.mask n e in omega (arith, w.seen n i)) w.distinct;
  seen = λ x i. ⊎_elim (λ a. omega (arith, w.seen x a, bit_union (2 ^ n) st.mask x, bit_lt (2 ^ n) x))
      (λ b. let s : x ≡ n = Memᴰ.eq_of_singleton b in ap (bit (union (2 ^ n) st.mask)) s ∙ omega (arith, bit_union (2 ^ n) st.mask n, bit_self n, bit_lt st.mask n)) (Memᴰ.append_cases st.listed i);
  listed = λ x b. by_eq x n (λ s. Memᴰ.append_right st.listed (Memᴰ.head s))
      (λ g. Memᴰ.append_left (n ∷ []) (w.listed x (omega (arith, b, bit_union (2 ^ n) st.mask x, bit_other n x (λ s. g (sym s))))));
}

pub collect_once : (ts : List Triple) (used d : ℕ) (st : VisitedNodes) (n : ℕ) → ListedOnce st → ListedOnce (collect_ancestors d ts used st n)
unfolding collect_ancestors
collect_once ts used zero st n w = w
collect_once ts used (suc d) st n w =
    by_test (λ b. ListedOnce (elim b [ true ↦ st | false ↦ over (collect_ancestors d ts used) (list_node st n) (get_parents ts n) ])) (holds st.mask n || holds used n) (λ e. w)
    (λ e. over_keeps ListedOnce (collect_ancestors d ts used) (get_parents ts n) (list_node st n) (λ s p i v. collect_once ts used d s p v)
    (list_once st n w (or-false (holds st.mask n) (holds used n) e).0))

-- ---- none but those that a property holds of, which goes up to the parents that are not in `used`

module _ (ts : List Triple) (used : ℕ) (P : ℕ → Type 0) (closed : (t : Triple) → Memᴰ t ts → P t.child → holds used t.parent ≡ false → P t.parent) where
  pub collect_only : (d : ℕ) (st : VisitedNodes) (n : ℕ) → (holds used n ≡ false → P n) → AllListed P st → AllListed P (collect_ancestors d ts used st n)
  unfolding collect_ancestors
  collect_only zero st n h w = w
  collect_only (suc d) st n h w =
      by_test (λ b. AllListed P (elim b [ true ↦ st | false ↦ over (collect_ancestors d ts used) (list_node st n) (get_parents ts n) ])) (holds st.mask n || holds used n) (λ e. w)
      (λ e. let here : P n = h (or-false (holds st.mask n) (holds used n) e).1 in
      over_keeps (AllListed P) (collect_ancestors d ts used) (get_parents ts n) (list_node st n) (λ s p i v. collect_only d s p (up here p i) v) (record { each = λ x i. first here x i }))
    where
      up : P n → (p : ℕ) → Memᴰ p (get_parents ts n) → holds used p ≡ false → P p
      up here p i e =
          let r = in_parents ts n p i in
          subst P (sym r.3) (closed r.0 r.1 (subst P (sym r.2) here) (ap (holds used) (sym r.3) ∙ e))

      first : P n → (x : ℕ) → Memᴰ x (st.listed ++ (n ∷ [])) → P x
      first here x i = ⊎_elim (λ a. w.each x a) (λ b. subst P (sym (Memᴰ.eq_of_singleton b)) here) (Memᴰ.append_cases st.listed i)

-- ---- all of them

module _ (ts : List Triple) (used c : ℕ) (inside : (t : Triple) → Memᴰ t ts → t.parent < c) where
  settled_more : {a b : VisitedNodes} (n : ℕ) → Sub a.mask b.mask → Settled used a n → Settled used b n
  settled_more n s w = record { either = ⊎_elim (λ h. inl (sub_at s n h)) (λ u. inr u) w.either }

  closed_none : (st : VisitedNodes) → ParentsSettled ts used st st
  closed_none st = record { each = λ x h. inl h }

  closed_next : {a b e : VisitedNodes} → ParentsSettled ts used a b → ParentsSettled ts used b e → Sub b.mask e.mask → ParentsSettled ts used a e
  closed_next {a} {b} {e} v w s = record {
    each = λ x h. ⊎_elim
        (λ m. ⊎_elim (λ o. inl o) (λ f. inr (λ t i q. settled_more t.parent s (f t i q))) (v.each x m)) (λ f. inr f) (w.each x h);
  }

  -- step after step, where there is depth for each node that is not visited
  pub over_visits : (d : ℕ) (f : VisitedNodes → ℕ → VisitedNodes) → ((st : VisitedNodes) (n : ℕ) → n < c → ListedBelow c st → c ≤ d + ones st.mask → VisitedAll ts used c st (f st n) (n ∷ []))
      → (xs : List ℕ) → ((x : ℕ) → Memᴰ x xs → x < c) → (st : VisitedNodes) → ListedBelow c st → c ≤ d + ones st.mask → VisitedAll ts used c st (over f st xs) xs
  over_visits d f step [] h st w l = record { grows = record { fair = w; has = sub_refl st.mask }; closed = closed_none st; settled = λ x i. absurd (Memᴰ.not-nil i) }
  over_visits d f step (y ∷ ys) h st w l =
      let one = step st y (h y (Memᴰ.head refl)) w l in
      let rest = over_visits d f step ys (λ x i. h x (Memᴰ.tail i)) (f st y) one.grows.fair (omega (arith, ones_mono st.mask (f st y).mask one.grows.has)) in
      record {
        grows = record { fair = rest.grows.fair; has = sub_trans one.grows.has rest.grows.has };
        closed = closed_next one.closed rest.closed rest.grows.has;
        settled = λ x i. ⊎_elim (λ e. settled_more x rest.grows.has (one.settled x (Memᴰ.head e))) (λ t. rest.settled x t) (Memᴰ.cases_cons i);
      }

  -- a mask with c elements below c has all of them
  full : (m n : ℕ) → m < 2 ^ c → c ≤ ones m → n < c → bit m n ≡ 1
  full m n s l h =
      by_eq (bit m n) 1 (λ e. e)
      (λ g. absurd (omega (arith, ones_insert n m (omega (arith, bit_lt m n)), ones_bound c (union m (2 ^ n)) (union_lt c m (2 ^ n) s (pow-lt h)))))

  -- the parents of a node that is not visited are visited once it is listed
  list_visits : (st new : VisitedNodes) (n : ℕ) → n < c → ListedBelow c st → holds st.mask n ≡ false → VisitedAll ts used c (list_node st n) new (get_parents ts n) → VisitedAll ts used c st new (n ∷ [])
  list_visits st new n h w e v = record {
    grows = record { fair = v.grows.fair; has = sub_trans first.has v.grows.has };
    closed = record { each = λ x b. ⊎_elim (λ m. by_eq x n (λ s. inr (λ t i q. parents t i (q ∙ s))) (λ g. inl (other x g m))) (λ f. inr f) (v.closed.each x b) };
    settled = λ x i. ⊎_elim (λ s. record { either = inl (ap (bit new.mask) s ∙ here) }) (λ t. absurd (Memᴰ.not-nil t)) (Memᴰ.cases_cons i);
  }
    where
      first : VisitsGrow c st (list_node st n)
      first = list_grows st n w h e

      here : bit new.mask n ≡ 1
      here = sub_at v.grows.has n (omega (arith, bit_union (2 ^ n) st.mask n, bit_self n, bit_lt st.mask n))

      parents : (t : Triple) → Memᴰ t ts → t.child ≡ n → Settled used new t.parent
      parents t i q = v.settled t.parent (subst (λ (k : ℕ). Memᴰ t.parent (get_parents ts k)) q (parents_in_lem ts t i))

      other : (x : ℕ) → (x ≡ n → ⊥) → bit (union (2 ^ n) st.mask) x ≡ 1 → bit st.mask x ≡ 1
      other x g b = omega (arith, bit_union (2 ^ n) st.mask x, bit_other n x (λ s. g (sym s)))

  here_visits : (st : VisitedNodes) (n : ℕ) → ListedBelow c st → Settled used st n → VisitedAll ts used c st st (n ∷ [])
  here_visits st n w s = record {
    grows = record { fair = w; has = sub_refl st.mask };
    closed = closed_none st;
    settled = λ x i. ⊎_elim (λ e. subst (Settled used st) (sym e) s) (λ t. absurd (Memᴰ.not-nil t)) (Memᴰ.cases_cons i);
  }

  pub collect_visits : (d : ℕ) (st : VisitedNodes) (n : ℕ) → n < c → ListedBelow c st → c ≤ d + ones st.mask → VisitedAll ts used c st (collect_ancestors d ts used st n) (n ∷ [])
  unfolding collect_ancestors
  collect_visits zero st n h w l = here_visits st n w (record { either = inl (full st.mask n w.small (omega arith) h) })
  collect_visits (suc d) st n h w l =
      by_test (λ b. VisitedAll ts used c st (elim b [ true ↦ st | false ↦ over (collect_ancestors d ts used) (list_node st n) (get_parents ts n) ]) (n ∷ [])) (holds st.mask n || holds used n)
      (λ e. here_visits st n w (record { either = ⊎_elim (λ m. inl (holds_true st.mask n m)) (λ u. inr u) (or-true (holds st.mask n) (holds used n) e) }))
      (λ e. let new : holds st.mask n ≡ false = (or-false (holds st.mask n) (holds used n) e).0 in
      list_visits st _ n h w new
      (over_visits d (collect_ancestors d ts used) (λ s p a b k. collect_visits d s p a b k) (get_parents ts n) (parents_small ts c inside n) (list_node st n) (list_grows st n w h new).fair
      (omega (arith, l, ap ones (union_comm (2 ^ n) st.mask), ones_insert n st.mask (holds_false st.mask n new)))))

  -- ---- no depth cuts a visit off, where there is depth for each node that is not visited: a greater one comes to the same

  pub over_same : (d : ℕ) (f g : VisitedNodes → ℕ → VisitedNodes) → ((st : VisitedNodes) (n : ℕ) → n < c → ListedBelow c st → c ≤ d + ones st.mask → f st n ≡ g st n)
      → ((st : VisitedNodes) (n : ℕ) → n < c → ListedBelow c st → VisitsGrow c st (f st n))
      → (xs : List ℕ) → ((x : ℕ) → Memᴰ x xs → x < c) → (st : VisitedNodes) → ListedBelow c st → c ≤ d + ones st.mask → over f st xs ≡ over g st xs
  over_same d f g step grows [] h st w l = refl
  over_same d f g step grows (y ∷ ys) h st w l =
      let low : y < c = h y (Memᴰ.head refl) in
      let one = grows st y low w in
      over_same d f g step grows ys (λ x i. h x (Memᴰ.tail i)) (f st y) one.fair (omega (arith, l, ones_mono st.mask (f st y).mask one.has))
      ∙ ap (λ (s : VisitedNodes). over g s ys) (step st y low w l)

  pub collect_depth : (d e : ℕ) (st : VisitedNodes) (n : ℕ) → n < c → ListedBelow c st → c ≤ d + ones st.mask → d ≤ e → collect_ancestors d ts used st n ≡ collect_ancestors e ts used st n
  unfolding collect_ancestors
  collect_depth zero e st n h w l k =
      collect_skip ts used st n e (ap (λ (b : Bool). b || holds used n) (true_holds st.mask n (full st.mask n w.small (omega arith) h)))
  collect_depth (suc d) zero st n h w l k = absurd (omega arith)
  collect_depth (suc d) (suc e) st n h w l k =
      by_test (λ b. ◌≡◌ {A = VisitedNodes} (elim b [ true ↦ st | false ↦ over (collect_ancestors d ts used) (list_node st n) (get_parents ts n) ])
      (elim b [ true ↦ st | false ↦ over (collect_ancestors e ts used) (list_node st n) (get_parents ts n) ])) (holds st.mask n || holds used n) (λ q. refl)
      (λ q. let new : holds st.mask n ≡ false = (or-false (holds st.mask n) (holds used n) q).0 in
      over_same d (collect_ancestors d ts used) (collect_ancestors e ts used) (λ s p a b m. collect_depth d e s p a b m (omega arith)) (λ s p a b. collect_grows ts used c inside d s p a b)
      (get_parents ts n) (parents_small ts c inside n) (list_node st n) (list_grows st n w h new).fair
      (omega (arith, l, ap ones (union_comm (2 ^ n) st.mask), ones_insert n st.mask (holds_false st.mask n new))))
