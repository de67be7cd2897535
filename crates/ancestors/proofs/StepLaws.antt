-- A step leaves what is still to be visited as it is, so that a walk lists what the visits of the definition do. Assumes nothing.
use Rattle.std.proofs.Common.{◌≡◌, refl, sym, ap, ◌∙◌, subst, ⊎_elim, take-suc, Bool, true, false, ◌||◌, eqb, take, cond, List, [], ◌∷◌, ◌++◌, ℕ, zero, suc, ◌+◌, ◌-◌, ◌*◌, ◌^◌, ◌≤◌, ◌<◌, arith, eqb-true, length, length-append, length-take-le}
use Rattle.std.proofs.Math.Bool.{or-true as any-or-true}
use mathlib.Core.List.{Memᴰ}
use Rattle.std.specs.Prelude.{Option, None, Some}
use Rattle.std.proofs.lemmas.Bool.{eqb-false}
use Rattle.std.specs.Int.Count.{ones}
use Rattle.std.proofs.Math.Seq.{take-length}
use Rattle.base.specs.Lists.{over}
use Rattle.base.specs.ListLaws.{by_test, or-false, or-true}
use Rattle.dataflow_domains.specs.Mask.{holds, Sub}
use Rattle.dataflow_domains.specs.MaskLaws.{union_comm, ones_insert, ones_bound, sub_at}
use Rattle.dataflow_domains.specs.HoldsLaws.{holds_true, holds_false, true_holds}
use Rattle.borrow_analysis.specs.declared.triples.Triple.{Triple}
use Rattle.borrow_analysis.specs.Borrows.{get_parents, VisitedNodes, list_node, collect_ancestors}
use Rattle.borrow_analysis.specs.Visiting.{ListedBelow}
use Rattle.borrow_analysis.specs.AncestorLaws.{parents_small, collect_skip, collect_new, list_grows, collect_grows}
use Rattle.borrow_analysis.specs.DyingLaws.{over_same, collect_depth, collect_visits}
use Rattle.ancestors.specs.Ancestors.{WalkState, at_rest, end_of, put, take_off, passed_over, first_new, one_step, walk, start_at}
use Rattle.ancestors.specs.Walking.{StateBelow, rest_of, rest_from}

-- ---- the first new node of a list

pub record FirstNew (m used : ℕ) (ps : List ℕ) (p : ℕ) : Type 0 where
  pub among : Memᴰ p ps
  pub new : passed_over m used p ≡ false

pub first_new_lem : (m used : ℕ) (ps : List ℕ) {p : ℕ} → first_new m used ps ≡ Some p → FirstNew m used ps p
unfolding first_new
first_new_lem m used [] {p} e = absurd (let z : ◌≡◌ {A = ℕ} 0 1 = cc in omega arith)
first_new_lem m used (q ∷ qs) {p} e =
    by_test (λ b. cond b (first_new m used qs) (Some q) ≡ Some p → FirstNew m used (q ∷ qs) p) (passed_over m used q)
    (λ t s. let r = first_new_lem m used qs s in record { among = Memᴰ.tail r.among; new = r.new })
    (λ f s. let same : p ≡ q = cc in record { among = Memᴰ.head same; new = ap (passed_over m used) same ∙ f }) e

-- ---- passed over: listed, or in `used`

or_right : (x y : Bool) → y ≡ true → x || y ≡ true
or_right x y e = ap (λ (b : Bool). x || b) e ∙ any-or-true x

pub passed_more : {a b : ℕ} (used n : ℕ) → Sub a b → passed_over a used n ≡ true → passed_over b used n ≡ true
passed_more {a} {b} used n s e =
    ⊎_elim (λ h. ap (λ (x : Bool). x || holds used n) (true_holds b n (sub_at s n (holds_true a n h)))) (λ u. or_right (holds b n) (holds used n) u) (or-true (holds a n) (holds used n) e)

-- ---- what is still to be visited

rest_end : (visit : VisitedNodes → ℕ → VisitedNodes) (ts : List Triple) (xs : List ℕ) (x : ℕ) (st : VisitedNodes) → rest_of visit ts (xs ++ (x ∷ [])) st ≡ rest_of visit ts xs (over visit st (get_parents ts x))
unfolding rest_of
rest_end visit ts [] x st = refl
rest_end visit ts (y ∷ ys) x st = ap (λ (s : VisitedNodes). over visit s (get_parents ts y)) (rest_end visit ts ys x st)

none_left : (xs : List ℕ) → length xs ≡ 0 → xs ≡ []
none_left [] e = refl
none_left (x ∷ xs) e = absurd (omega arith)

-- a list is what it is without its end, and its end
pub end_last : (w : WalkState) → 0 < length w.path → w.path ≡ take (length w.path - 1) w.path ++ (end_of w ∷ [])
unfolding end_of
end_last w h =
    let at : suc (length w.path - 1) ≡ length w.path = omega arith in
    sym (take-length w.path) ∙ ap (λ (k : ℕ). take k w.path) (sym at) ∙ take-suc w.path (length w.path - 1) 0 (omega arith)

-- ---- the states stay below c, and each step brings the end nearer by one

-- how many steps there are left at most
abbrev pub left : ℕ → WalkState → ℕ
left c w = 2 * (c - length w.visited.listed) + length w.path

module _ (c : ℕ) (w : WalkState) (fits : StateBelow c w) where
  pub put_below : (n : ℕ) → n < c → holds w.visited.mask n ≡ false → StateBelow c (put w n) × (suc (left c (put w n)) ≡ left c w)
  unfolding put
  put_below n h e =
      let grows = list_grows w.visited n fits.fair h e in
      let one = length-append w.path (n ∷ []) in
      let two = length-append w.visited.listed (n ∷ []) in
      let full : length w.visited.listed + 1 ≤ c = omega (arith, two, grows.fair.each, ones_bound c (list_node w.visited n).mask grows.fair.small) in
      (record { fair = grows.fair; short = omega (arith, one, two, fits.short) }, omega (arith, one, two, full))

  pub off_below : 0 < length w.path → StateBelow c (take_off w) × (suc (left c (take_off w)) ≡ left c w)
  unfolding take_off
  off_below h =
      let one = length-take-le (length w.path - 1) w.path (omega arith) in
      (record { fair = fits.fair; short = omega (arith, one, fits.short) }, omega (arith, one))

-- ---- the two steps

module _ (ts : List Triple) (used : ℕ) (w : WalkState) where
  -- no parent of the end is new
  pub step_off : first_new w.visited.mask used (get_parents ts (end_of w)) ≡ None → one_step ts used w ≡ take_off w
  unfolding one_step
  step_off e = rw (e, one_step)

  -- p is the first that is
  pub step_on : (p : ℕ) → first_new w.visited.mask used (get_parents ts (end_of w)) ≡ Some p → one_step ts used w ≡ put w p
  unfolding one_step
  step_on p e = rw (e, one_step)

  pub by_step : (P : WalkState → Type 0) → (first_new w.visited.mask used (get_parents ts (end_of w)) ≡ None → P (take_off w))
      → ((p : ℕ) → first_new w.visited.mask used (get_parents ts (end_of w)) ≡ Some p → P (put w p)) → P (one_step ts used w)
  by_step P off on = go (first_new w.visited.mask used (get_parents ts (end_of w))) refl
    where
      go : (o : Option ℕ) → first_new w.visited.mask used (get_parents ts (end_of w)) ≡ o → P (one_step ts used w)
      go None e = subst P (sym (step_off e)) (off e)
      go (Some p) e = subst P (sym (step_on p e)) (on p e)

module _ (ts : List Triple) (used c : ℕ) (inside : (t : Triple) → Memᴰ t ts → t.parent < c) where
  abbrev visit : VisitedNodes → ℕ → VisitedNodes
  visit = collect_ancestors c ts used

  pub step_below : (w : WalkState) → StateBelow c w → 0 < length w.path → StateBelow c (one_step ts used w) × (suc (left c (one_step ts used w)) ≡ left c w)
  step_below w fits h =
      by_step ts used w (λ v. StateBelow c v × (suc (left c v) ≡ left c w)) (λ e. off_below c w fits h)
      (λ p e. let r = first_new_lem w.visited.mask used (get_parents ts (end_of w)) e in put_below c w fits p (parents_small ts c inside (end_of w) p r.among) (or-false _ _ r.new).0)

  -- ---- a visit, at a depth of all nodes

  -- of a new node: it is listed, and its parents are visited
  visit_new : (st : VisitedNodes) (n : ℕ) → n < c → ListedBelow c st → passed_over st.mask used n ≡ false → over visit (list_node st n) (get_parents ts n) ≡ visit st n
  visit_new st n h w e =
      let new : holds st.mask n ≡ false = (or-false (holds st.mask n) (holds used n) e).0 in
      sym (over_same ts used c inside (c - 1) (collect_ancestors (c - 1) ts used) visit (λ s p a b m. collect_depth ts used c inside (c - 1) c s p a b m (omega arith))
      (λ s p a b. collect_grows ts used c inside (c - 1) s p a b) (get_parents ts n) (parents_small ts c inside n) (list_node st n) (list_grows st n w h new).fair
      (omega (arith, ap ones (union_comm (2 ^ n) st.mask), ones_insert n st.mask (holds_false st.mask n new))))
      ∙ collect_new ts used st n c (omega arith) e

  visit_passed : (st : VisitedNodes) (n : ℕ) → passed_over st.mask used n ≡ true → visit st n ≡ st
  visit_passed st n e = sym (collect_skip ts used st n c e)

  -- what was visited is passed over
  passed_after : (st : VisitedNodes) (n : ℕ) → n < c → ListedBelow c st → passed_over (visit st n).mask used n ≡ true
  passed_after st n h w =
      ⊎_elim (λ b. ap (λ (x : Bool). x || holds used n) (true_holds (visit st n).mask n b)) (λ u. or_right (holds (visit st n).mask n) (holds used n) u)
      ((collect_visits ts used c inside c st n h w (omega arith)).settled n (Memᴰ.head refl)).either

  -- where none is new, none is visited
  visit_none : (st : VisitedNodes) (ps : List ℕ) → first_new st.mask used ps ≡ None → over visit st ps ≡ st
  unfolding first_new
  visit_none st [] e = refl
  visit_none st (q ∷ qs) e =
      by_test (λ b. cond b (first_new st.mask used qs) (Some q) ≡ None → over visit (visit st q) qs ≡ st) (passed_over st.mask used q)
      (λ t s. ap (λ (v : VisitedNodes). over visit v qs) (visit_passed st q t) ∙ visit_none st qs s)
      (λ f s. absurd (let z : ◌≡◌ {A = ℕ} 0 1 = cc in omega arith)) e

  -- the first new one may be visited ahead of all
  visit_first : (st : VisitedNodes) (ps : List ℕ) (p : ℕ) → p < c → ListedBelow c st → first_new st.mask used ps ≡ Some p → over visit st ps ≡ over visit (visit st p) ps
  unfolding first_new
  visit_first st [] p h w e = absurd (let z : ◌≡◌ {A = ℕ} 0 1 = cc in omega arith)
  visit_first st (q ∷ qs) p h w e =
      by_test (λ b. cond b (first_new st.mask used qs) (Some q) ≡ Some p → over visit (visit st q) qs ≡ over visit (visit (visit st p) q) qs)
      (passed_over st.mask used q)
      (λ t s. ap (λ (v : VisitedNodes). over visit v qs) (visit_passed st q t) ∙ visit_first st qs p h w s
      ∙ ap (λ (v : VisitedNodes). over visit v qs) (sym (visit_passed (visit st p) q (passed_more used q (collect_grows ts used c inside c st p h w).has t))))
      (λ f s. let same : q ≡ p = cc in
      ap (λ (v : VisitedNodes). over visit v qs) (ap (visit st) same ∙ sym (visit_passed (visit st p) q (ap (λ (x : ℕ). passed_over (visit st p).mask used x) same ∙ passed_after st p h w)))) e

  -- ---- a step leaves the rest as it is

  pub rest_step : (w : WalkState) → StateBelow c w → 0 < length w.path → rest_from ts used c (one_step ts used w) ≡ rest_from ts used c w
  unfolding put take_off
  rest_step w fits h =
      by_step ts used w (λ v. rest_from ts used c v ≡ rest_from ts used c w)
      (λ e. ap (rest_of visit ts front) (sym (visit_none w.visited parents e)) ∙ sym whole)
      (λ p e. let r = first_new_lem w.visited.mask used parents e in
      let low : p < c = parents_small ts c inside (end_of w) p r.among in
      rest_end visit ts w.path p (list_node w.visited p) ∙ ap (rest_of visit ts w.path) (visit_new w.visited p low fits.fair r.new)
      ∙ ends (visit w.visited p) ∙ ap (rest_of visit ts front) (sym (visit_first w.visited parents p low fits.fair e)) ∙ sym whole)
    where
      parents : List ℕ
      parents = get_parents ts (end_of w)

      front : List ℕ
      front = take (length w.path - 1) w.path

      ends : (st : VisitedNodes) → rest_of visit ts w.path st ≡ rest_of visit ts front (over visit st parents)
      ends st = ap (λ (l : List ℕ). rest_of visit ts l st) (end_last w h) ∙ rest_end visit ts front (end_of w) st

      whole : rest_of visit ts w.path w.visited ≡ rest_of visit ts front (over visit w.visited parents)
      whole = ends w.visited

  -- at rest nothing is left
  pub rest_none : (w : WalkState) → length w.path ≡ 0 → rest_from ts used c w ≡ w.visited
  unfolding rest_of
  rest_none w h = ap (λ (l : List ℕ). rest_of visit ts l w.visited) (none_left w.path h)

  -- at the start the whole visit is
  pub rest_put : (st : VisitedNodes) (n : ℕ) → n < c → ListedBelow c st → passed_over st.mask used n ≡ false → rest_from ts used c (put (at_rest st) n) ≡ visit st n
  unfolding put rest_of
  rest_put st n h w e = visit_new st n h w e

  -- ---- the walk

  pub record CameToRest (w : WalkState) (end : WalkState) : Type 0 where
    pub rest : end.path ≡ []
    pub all : end.visited ≡ rest_from ts used c w

  pub walk_rest : (k : ℕ) (w : WalkState) → StateBelow c w → left c w ≤ k → CameToRest w (walk k ts used w)
  unfolding walk
  walk_rest zero w fits h = let e : length w.path ≡ 0 = omega arith in record { rest = none_left w.path e; all = sym (rest_none w e) }
  walk_rest (suc k) w fits h =
      by_test (λ b. CameToRest w (cond b w (walk k ts used (one_step ts used w)))) (eqb (length w.path) 0)
      (λ t. let e = eqb-true (length w.path) 0 t in record { rest = none_left w.path e; all = sym (rest_none w e) })
      (λ f. let some_left : 0 < length w.path = omega (arith, eqb-false (length w.path) 0 f) in
      let next = step_below w fits some_left in
      let came = walk_rest k (one_step ts used w) next.0 (omega (arith, next.1)) in
      record { rest = came.rest; all = came.all ∙ rest_step w fits some_left })

  -- from n on
  pub walk_visits : (k : ℕ) (st : VisitedNodes) (n : ℕ) → n < c → ListedBelow c st → 2 * c ≤ k → (walk k ts used (start_at used st n)).visited ≡ visit st n
  unfolding start_at
  walk_visits k st n h w e =
      by_test (λ b. (walk k ts used (cond b (at_rest st) (put (at_rest st) n))).visited ≡ visit st n) (passed_over st.mask used n)
      (λ t. (walk_rest k (at_rest st) fits (omega arith)).all ∙ rest_none (at_rest st) refl ∙ sym (visit_passed st n t))
      (λ f. let low = put_below c (at_rest st) fits n h (or-false _ _ f).0 in (walk_rest k (put (at_rest st) n) low.0 (omega (arith, low.1))).all ∙ rest_put st n h w f)
    where
      fits : StateBelow c (at_rest st)
      fits = record { fair = w; short = omega arith }
