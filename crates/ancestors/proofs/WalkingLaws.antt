-- The walk as the code makes it: the scan for the next parent, one step, the walk from a node, and those from the nodes of a set. Assumes nothing.
use Rattle.std.proofs.Common.{◌≡◌, refl, Bool, true, false, ◌||◌, length, sym, ap, ap₂, ◌∙◌, subst, arith, eq-eqb, ne_eqb, length-set, length-append, pow_pos, cond, List, [], ◌∷◌, ◌++◌, ℕ, zero, suc, ◌+◌, ◌-◌, ◌*◌, ◌/◌, ◌^◌, ◌≤◌, ◌<◌, get_or, take, set, le_refl, length-take-le, get_or-take}
use mathlib.Core.List.{Memᴰ}
use Rattle.std.proofs.Math.Nat.{sub-zero}
use Rattle.std.proofs.Math.ListN.{get_or-append}
use Rattle.std.proofs.lemmas.List.{get_or_at}
use Rattle.std.specs.Int.Count.{ones}
use Rattle.std.proofs.lemmas.Nat.{ones-le}
use Rattle.std.specs.Prelude.{None, Some, slice_get}
use Rattle.std.proofs.lemmas.Option.{slice_get_within, get_or_from_slice_get, slice_get-get_or}
use Rattle.base.specs.Sizes.{max_locals}
use Rattle.base.specs.Lists.{tab, over}
use Rattle.base.specs.ListLaws.{by_eq, or-false}
use Rattle.base.specs.JoinLaws.{by_lt}
use Rattle.base.specs.TabLaws.{tab_more, tab_end, over_keeps}
use Rattle.dataflow_domains.specs.Mask.{holds, minus, Sub}
use Rattle.dataflow_domains.specs.Members.{members, Lowest}
use Rattle.dataflow_domains.specs.MemberLaws.{in_members}
use Rattle.dataflow_domains.specs.WalkLaws.{members_next, members_end}
use Rattle.dataflow_domains.specs.MaskLaws.{sub_refl, sub_trans, sub_union_l, ones_zero, ones_bound, union_comm, minus_lt}
use Rattle.dataflow_domains.specs.HoldsLaws.{holds_insert}
use Rattle.dataflow_domains.specs.Sets.{mask}
use Rattle.borrow_analysis.specs.declared.triples.Triple.{Triple}
use Rattle.borrow_analysis.specs.Graph.{triple_at, triples_of}
use Rattle.borrow_analysis.specs.Borrows.{get_parents, VisitedNodes, none_visited, list_node, collect_ancestors}
use Rattle.borrow_analysis.specs.GraphParts.{NodesBelow}
use Rattle.borrow_analysis.specs.Visiting.{ListedBelow, VisitsGrow, VisitsWritten}
use Rattle.borrow_analysis.specs.AncestorLaws.{collect_grows}
use Rattle.borrow_analysis.specs.DyingLaws.{over_same, collect_depth}
use Rattle.borrow_analysis.specs.VisitLaws.{parents_below}
use Rattle.ancestors.specs.declared.Walk.{Walk}
use Rattle.ancestors.specs.NodeList.{NodeList}
use Rattle.ancestors.specs.Chains.{parent_at, child_at, NextFrom, Firsts}
use Rattle.ancestors.specs.Ancestors.{WalkState, end_of, put, take_off, passed_over, first_new}
use Rattle.ancestors.specs.Walking.{StateBelow, listed_by, state_of, rest_from, Scanned, ScansOn, Kept, Going, PutOn, Stepped, WalkSoFar, WalksSoFar}
use Rattle.ancestors.specs.ChainLaws.{set_each}
use Rattle.ancestors.proofs.StepLaws.{passed_more, put_below, off_below, step_off, step_on, rest_step, rest_none, rest_put, left, step_below}

-- ---- the scan

-- on to the next triple that leads to the same node, where the parent here is passed over
scan_next : {xs : List ℕ} {m used x i j : ℕ} → Scanned xs m used x i → i < length xs / 3 → passed_over m used (parent_at xs i) ≡ true → NextFrom xs (child_at xs i) (suc i) j → Scanned xs m used x j
scan_next {xs} {m} {used} {x} {i} {j} w h e next = record {
  fits = next.fits;
  own = λ l. next.own l ∙ w.own h;
  passed = λ t l c. by_eq t i (λ s. subst (λ (k : ℕ). passed_over m used (parent_at xs k) ≡ true) (sym s) e)
      (λ g. by_lt t i (λ d. w.passed t d c) (λ d. absurd (next.other t (omega (arith, d, g)) l (c ∙ sym (w.own h)))));
}

pub scans_none : (xs : List ℕ) (m used i : ℕ) → ScansOn xs m used i i
scans_none xs m used i = record { each = λ x w. w }

pub scans_more : {xs : List ℕ} {m used i j k l : ℕ} → ScansOn xs m used i j → j < length xs / 3 → passed_over m used (parent_at xs j) ≡ true → NextFrom xs (child_at xs j) (suc j) k → l ≡ k → ScansOn xs m used i l
scans_more {xs} {m} {used} w h e next is = record { each = λ x v. subst (Scanned xs m used x) (sym is) (scan_next (w.each x v) h e next) }

-- behind the last triple
pub scans_end : {xs : List ℕ} {m used i j : ℕ} → ScansOn xs m used i j → length xs / 3 ≤ j → ScansOn xs m used i (length xs / 3)
scans_end {xs} {m} {used} {i} {j} w h = record { each = λ x v. let here = w.each x v in let last : j ≡ length xs / 3 = omega (arith, here.fits, h) in subst (Scanned xs m used x) last here }

module _ (xs : List ℕ) (m used x : ℕ) where
  -- what is passed over does not count
  scanned_new : (k : ℕ) → Scanned xs m used x k → (j : ℕ) → j ≤ k → first_new m used (get_parents (triples_of xs) x) ≡ first_new m used (get_parents (tab (length xs / 3 - j) j (triple_at xs)) x)
  unfolding first_new get_parents
  scanned_new k w zero h = ap (λ (i : ℕ). first_new m used (get_parents (tab i 0 (triple_at xs)) x)) (sym (sub-zero (length xs / 3)))
  scanned_new k w (suc j) h =
      scanned_new k w j (omega arith) ∙ ap (λ (l : List Triple). first_new m used (get_parents l x)) (tab_more (length xs / 3) j (triple_at xs) (omega (arith, w.fits)))
      ∙ by_eq (child_at xs j) x (λ s. rw (eq-eqb (child_at xs j) x s) (skip (w.passed j (omega arith) s))) (λ g. rw (ne_eqb (child_at xs j) x g) next)
    where
      rest : List ℕ
      rest = get_parents (tab (length xs / 3 - (j + 1)) (j + 1) (triple_at xs)) x

      next : first_new m used rest ≡ first_new m used (get_parents (tab (length xs / 3 - suc j) (suc j) (triple_at xs)) x)
      next = ap (λ (i : ℕ). first_new m used (get_parents (tab (length xs / 3 - i) i (triple_at xs)) x)) (omega arith)

      skip : passed_over m used (parent_at xs j) ≡ true
          → cond (passed_over m used (parent_at xs j)) (first_new m used rest) (Some (parent_at xs j)) ≡ first_new m used (get_parents (tab (length xs / 3 - suc j) (suc j) (triple_at xs)) x)
      skip t = ap (λ (b : Bool). cond b (first_new m used rest) (Some (parent_at xs j))) t ∙ next

  -- the scan came to the end: no parent is new
  pub scan_end : {i : ℕ} → length xs / 3 ≤ i → Scanned xs m used x i → first_new m used (get_parents (triples_of xs) x) ≡ None
  unfolding first_new get_parents
  scan_end {i} h w = scanned_new i w (length xs / 3) h ∙ ap (λ (l : List Triple). first_new m used (get_parents l x)) (tab_end (length xs / 3) (length xs / 3) (triple_at xs) (omega arith))

  -- it stands at a parent that is new: the first
  pub scan_found : {i : ℕ} → i < length xs / 3 → Scanned xs m used x i → passed_over m used (parent_at xs i) ≡ false → first_new m used (get_parents (triples_of xs) x) ≡ Some (parent_at xs i)
  unfolding first_new get_parents
  scan_found {i} h w new =
      scanned_new i w i (omega arith) ∙ ap (λ (l : List Triple). first_new m used (get_parents l x)) (tab_more (length xs / 3) i (triple_at xs) h)
      ∙ rw (eq-eqb (child_at xs i) x (w.own h)) (ap (λ (b : Bool). cond b (first_new m used (get_parents (tab (length xs / 3 - (i + 1)) (i + 1) (triple_at xs)) x)) (Some (parent_at xs i))) new)

-- ---- the kept places

scanned_more : {xs : List ℕ} {m m₁ used x k : ℕ} → Sub m m₁ → Scanned xs m used x k → Scanned xs m₁ used x k
scanned_more {xs} {used = used} s w = record { fits = w.fits; own = w.own; passed = λ i l e. passed_more used (get_or xs (3 * i) 0) s (w.passed i l e) }

kept_more : {xs kept : List ℕ} {m m₁ used : ℕ} → Sub m m₁ → Kept xs m used kept → Kept xs m₁ used kept
kept_more s w = record { long = w.long; each = λ x h. scanned_more s (w.each x h) }

kept_set : {xs kept : List ℕ} {m used x k : ℕ} → x < max_locals → Scanned xs m used x k → Kept xs m used kept → Kept xs m used (set kept x k)
kept_set {xs} {kept} {m} {used} {x} {k} h v w = record {
  long = length-set kept x k ∙ w.long;
  each = λ y l. set_each (Scanned xs m used) kept x k y (omega (arith, h, w.long)) v (λ g. w.each y l);
}

-- ---- a node is put

-- there is room for one that is new
pub put_room : {xs : List ℕ} {used : ℕ} {w : Walk} {n : ℕ} → Going xs used w → n < max_locals → passed_over (mask w.nodes) used n ≡ false → (length w.listed.items < max_locals) × (length w.path.items < max_locals)
unfolding put
put_room {w = w} {n = n} going low new =
    let after = (put_below max_locals (state_of w) going.fits n low (or-false _ _ new).0).0 in
    let all : length w.listed.items + 1 ≤ max_locals = omega (arith, length-append w.listed.items (n ∷ []), after.fair.each, ones_bound max_locals (list_node (listed_by w) n).mask after.fair.small) in
    (omega arith, omega (arith, going.fits.short))

-- n is put, and the places of the scans are those of `kept`
module _ (xs : List ℕ) (used : ℕ) (w w₁ : Walk) (n : ℕ) (kept : List ℕ) (going : Going xs used w) (low : n < max_locals) (new : passed_over (mask w.nodes) used n ≡ false)
    (on : PutOn (record w { scans = kept }) n w₁) where
  pub put_state : state_of w₁ ≡ put (state_of w) n
  unfolding put
  put_state =
      ap₂ (λ (l : List ℕ) (st : VisitedNodes). record { path = l; visited = st }) on.path
      (ap₂ (λ (a : ℕ) (l : List ℕ). record { mask = a; listed = l }) (on.nodes ∙ union_comm (mask w.nodes) (2 ^ n)) on.listed)

  put_each : (i : ℕ) → i < length (w.path.items ++ (n ∷ [])) → get_or (w.path.items ++ (n ∷ [])) i 0 < max_locals
  put_each i h =
      by_lt i (length w.path.items) (λ l. omega (arith, get_or-append w.path.items (n ∷ []) 0 i l, going.below i l))
      (λ l. omega (arith, get_or_at w.path.items n [] 0 i (omega (arith, l, h, length-append w.path.items (n ∷ []))), low))

  pub put_more : {k : List ℕ} → Kept xs (mask w.nodes) used k → Kept xs (mask w₁.nodes) used k
  put_more {k} = subst (λ (m : ℕ). Kept xs (mask w.nodes) used k → Kept xs m used k) (sym on.nodes) (kept_more (sub_union_l _ _))

  pub put_going : Kept xs (mask w₁.nodes) used kept → Going xs used w₁
  put_going scans = record {
    fits = subst (StateBelow max_locals) (sym put_state) (put_below max_locals (state_of w) going.fits n low (or-false _ _ new).0).0;
    below = subst (λ (l : List ℕ). (i : ℕ) → i < length l → get_or l i 0 < max_locals) (sym on.path) put_each;
    scans = subst (Kept xs (mask w₁.nodes) used) (sym on.scans) scans;
  }

-- ---- one step

-- what is last on the list is its end; where none is, nothing is on it
pub none_last : {items l : List ℕ} → l ≡ items → None ≡ slice_get l (length l - 1) → items ≡ []
none_last {items = []} e h = refl
none_last {items = y ∷ ys} {l} e h =
    let at : None ≡ slice_get (y ∷ ys) (length (y ∷ ys) - 1) = rw e at h in
    let last : slice_get (y ∷ ys) (length (y ∷ ys) - 1) ≡ Some (get_or (y ∷ ys) (length (y ∷ ys) - 1) 0) = slice_get-get_or (y ∷ ys) (length (y ∷ ys) - 1) 0 (omega arith) in
    cc

pub last_is : (w : Walk) {l : List ℕ} (x : ℕ) → l ≡ w.path.items → Some x ≡ slice_get l (length l - 1) → (0 < length w.path.items) × (x ≡ end_of (state_of w))
unfolding end_of
last_is w x e h =
    let at : Some x ≡ slice_get w.path.items (length w.path.items - 1) = rw e at h in
    (omega (arith, slice_get_within w.path.items (length w.path.items - 1) x (sym at)), sym (get_or_from_slice_get w.path.items (length w.path.items - 1) x 0 (sym at)))

module _ (xs : List ℕ) (used : ℕ) (w : Walk) (going : Going xs used w) (h : 0 < length w.path.items) {x : ℕ} (e : x ≡ end_of (state_of w)) where
  -- the end is a node, and the place of its scan is kept
  pub end_below : x < max_locals
  unfolding end_of
  end_below = omega (arith, e, going.below (length w.path.items - 1) (omega arith))

  pub end_kept : {at from : ℕ} → at ≡ x → from ≡ get_or w.scans at 0 → Scanned xs (mask w.nodes) used x from
  end_kept at is = subst (Scanned xs (mask w.nodes) used x) (sym (is ∙ ap (λ (j : ℕ). get_or w.scans j 0) at)) (going.scans.each x end_below)

  pub stepped_off : {path : NodeList} → Scanned xs (mask w.nodes) used x (length xs / 3) → path.items ≡ take (length w.path.items - 1) w.path.items → Stepped xs used w (record w { path = path })
  unfolding take_off
  stepped_off {path} scan is =
      let state : state_of (record w { path = path }) ≡ take_off (state_of w) = ap (λ (l : List ℕ). record { path = l; visited = listed_by w }) is in
      record {
        going = record {
          fits = subst (StateBelow max_locals) (sym state) (off_below max_locals (state_of w) going.fits h).0;
          below = subst (λ (l : List ℕ). (i : ℕ) → i < length l → get_or l i 0 < max_locals) (sym is)
              (λ i l. let low : i < length w.path.items - 1 = omega (arith, l, length-take-le (length w.path.items - 1) w.path.items (omega arith)) in
              omega (arith, get_or-take (length w.path.items - 1) w.path.items i 0 low, going.below i (omega (arith, low))));
          scans = going.scans;
        };
        state = state
            ∙ sym (step_off (triples_of xs) used (state_of w) (ap (λ (y : ℕ). first_new (mask w.nodes) used (get_parents (triples_of xs) y)) (sym e) ∙ scan_end xs _ used x (le_refl _) scan));
      }

  pub stepped_on : {w₁ : Walk} {at i v p : ℕ} → at ≡ x → Scanned xs (mask w.nodes) used x i → i < length xs / 3 → NextFrom xs (child_at xs i) (suc i) v → p < max_locals → p ≡ parent_at xs i
      → passed_over (mask w.nodes) used p ≡ false → PutOn (record w { scans = set w.scans at v }) p w₁ → Stepped xs used w w₁
  stepped_on {w₁} {at} {i} {v} {p} own scan low next small is new on =
      let m = mask w.nodes in
      let seen : passed_over (mask w₁.nodes) used (parent_at xs i) ≡ true = ap₂ (λ (a y : ℕ). passed_over a used y) on.nodes (sym is) ∙ ap (λ (b : Bool). b || holds used p) (holds_insert m p) in
      record {
        going = put_going xs used w w₁ p _ going small new on
            (subst (λ (j : ℕ). Kept xs (mask w₁.nodes) used (set w.scans j v)) (sym own) (kept_set end_below (scan_next (scanned_more (subst (Sub m) (sym on.nodes) (sub_union_l m (2 ^ p))) scan) low seen next) (put_more xs used w w₁ p _ going small new on going.scans)));
        state = put_state xs used w w₁ p _ going small new on
            ∙ sym (step_on (triples_of xs) used (state_of w) p
            (ap (λ (y : ℕ). first_new m used (get_parents (triples_of xs) y)) (sym e) ∙ scan_found xs m used x low scan (ap (passed_over m used) (sym is) ∙ new) ∙ ap (λ (y : ℕ). Some y) (sym is)));
      }

-- ---- the walk from a node

module _ (xs : List ℕ) (used : ℕ) (inside : NodesBelow max_locals xs) where
  parents : (t : Triple) → Memᴰ t (triples_of xs) → t.parent < max_locals
  parents = parents_below inside

  pub walk_step : {w₀ w w₁ : Walk} → 0 < length w.path.items → WalkSoFar xs used w₀ w → Stepped xs used w w₁ → WalkSoFar xs used w₀ w₁ × (suc (left max_locals (state_of w₁)) ≡ left max_locals (state_of w))
  walk_step {w₀} {w} {w₁} h so s = (
    record {
      going = s.going;
      work = ap (rest_from (triples_of xs) used max_locals) s.state ∙ rest_step (triples_of xs) used max_locals parents (state_of w) so.going.fits h ∙ so.work;
    },
    ap (λ (v : WalkState). suc (left max_locals v)) s.state ∙ (step_below (triples_of xs) used max_locals parents (state_of w) so.going.fits h).1,
  )

  -- the whole walk from n, which was put first
  pub walk_whole : {w₀ w₁ w : Walk} (n : ℕ) → Going xs used w₀ → w₀.path.items ≡ [] → n < max_locals → passed_over (mask w₀.nodes) used n ≡ false → PutOn w₀ n w₁ → WalkSoFar xs used w₁ w → w.path.items ≡ []
      → listed_by w ≡ collect_ancestors max_locals (triples_of xs) used (listed_by w₀) n
  walk_whole {w₀} {w₁} {w} n g rest low new on so e =
      sym (rest_none (triples_of xs) used max_locals parents (state_of w) (ap length e)) ∙ so.work
      ∙ ap (rest_from (triples_of xs) used max_locals)
      (put_state xs used w₀ w₁ n w₀.scans g low new on ∙ ap (λ (l : List ℕ). put (record { path = l; visited = listed_by w₀ }) n) rest)
      ∙ rest_put (triples_of xs) used max_locals parents (listed_by w₀) n low g.fits.fair new

  -- at a depth of c nodes, where these are all that the triples name and that are listed, it lists the same
  pub walk_depth : {c : ℕ} {w₀ w₁ w : Walk} (n : ℕ) → NodesBelow c xs → c ≤ max_locals → ListedBelow c (listed_by w₀) → n < c → Going xs used w₀ → w₀.path.items ≡ [] → passed_over (mask w₀.nodes) used n ≡ false → PutOn w₀ n w₁
      → WalkSoFar xs used w₁ w → w.path.items ≡ [] → listed_by w ≡ collect_ancestors c (triples_of xs) used (listed_by w₀) n
  walk_depth {c} {w₀} {w₁} {w} n small few fair low g rest new on so e =
      walk_whole n g rest (omega arith) new on so e ∙ sym (collect_depth (triples_of xs) used c (parents_below small) c max_locals (listed_by w₀) n low fair (omega arith) few)

-- ---- the walks from the nodes of a set

module _ (xs : List ℕ) (used c from : ℕ) where
  abbrev visit : ℕ → VisitedNodes → ℕ → VisitedNodes
  visit d = collect_ancestors d (triples_of xs) used

  -- before the first: nothing is listed, and each scan is at the first triple of its node
  pub walks_none : {w : Walk} → w.path.items ≡ [] → w.listed.items ≡ [] → mask w.nodes ≡ 0 → Firsts xs 0 w.scans → from < 2 ^ c → WalksSoFar xs used c from from w
  walks_none {w} rest empty blank firsts small = record {
    going = record {
      fits = record {
        fair = record { each = ap length empty ∙ sym (ap ones blank ∙ ones_zero); small = subst (λ (m : ℕ). m < 2 ^ max_locals) (sym blank) (pow_pos max_locals) };
        short = omega (arith, ap length rest);
      };
      below = λ i h. absurd (omega (arith, h, ap length rest));
      scans = record {
        long = firsts.long;
        each = λ x h. let f = firsts.each x h in record { fits = f.fits; own = f.own; passed = λ t l e. absurd (f.other t (omega arith) l e) };
      };
    };
    rests = rest;
    small = small;
    work = ap (λ (st : VisitedNodes). over (visit max_locals) st (members c from)) (sym (ap₂ (λ (m : ℕ) (l : List ℕ). record { mask = m; listed = l }) blank empty));
  }

  -- from n, the least of those that are to come
  pub walks_more : {left next n : ℕ} {w w₁ : Walk} → WalksSoFar xs used c from left w → Lowest left n → next ≡ minus left (2 ^ n)
      → Going xs used w₁ × (w₁.path.items ≡ []) × (listed_by w₁ ≡ visit max_locals (listed_by w) n) → WalksSoFar xs used c from next w₁
  walks_more {left} {next} {n} {w} {w₁} so low e came = record {
    going = came.0;
    rests = came.1;
    small = subst (λ (x : ℕ). x < 2 ^ c) (sym e) (minus_lt c left (2 ^ n) so.small);
    work = so.work ∙ members_next (visit max_locals) (listed_by w) c left n low so.small ∙ ap₂ (λ (st : VisitedNodes) (x : ℕ). over (visit max_locals) st (members c x)) (sym came.2) (sym e);
  }

  module _ (inside : NodesBelow c xs) where
    parents_c : (t : Triple) → Memᴰ t (triples_of xs) → t.parent < c
    parents_c = parents_below inside

    none_fair : ListedBelow c none_visited
    none_fair = record { each = sym ones_zero; small = pow_pos c }

    -- at a depth of c nodes it is the same
    same_depth : c ≤ max_locals → over (visit c) none_visited (members c from) ≡ over (visit max_locals) none_visited (members c from)
    same_depth h =
        over_same (triples_of xs) used c parents_c c (visit c) (visit max_locals) (λ s n l w k. collect_depth (triples_of xs) used c parents_c c max_locals s n l w k h)
        (λ s n l w. collect_grows (triples_of xs) used c parents_c c s n l w) (members c from) (λ x i. (in_members c from x i).0) none_visited none_fair (omega arith)

    grown : ListedBelow c (over (visit c) none_visited (members c from))
    grown = (over_keeps (VisitsGrow c none_visited) (visit c) (members c from) none_visited
        (λ s n i g. next g (collect_grows (triples_of xs) used c parents_c c s n (in_members c from n i).0 g.fair)) (record { fair = none_fair; has = sub_refl 0 })).fair
      where
        next : {a b : VisitedNodes} → VisitsGrow c none_visited a → VisitsGrow c a b → VisitsGrow c none_visited b
        next g k = record { fair = k.fair; has = sub_trans g.has k.has }

    -- after the last: what they listed, of no more nodes than there are
    pub walks_all : {left : ℕ} {w : Walk} → c ≤ max_locals → WalksSoFar xs used c from left w → left ≡ 0
        → (listed_by w ≡ over (visit c) none_visited (members c from)) × (length w.listed.items ≤ c)
    walks_all {left} {w} h so e =
        let is : listed_by w ≡ over (visit c) none_visited (members c from) = sym (same_depth h ∙ so.work ∙ members_end (visit max_locals) (listed_by w) c left e) in
        let fair = subst (ListedBelow c) (sym is) grown in
        (is, omega (arith, fair.each, ones-le c (mask w.nodes) fair.small))

-- what was written, by another name
pub written_as : {a b : VisitedNodes} {m k : ℕ} {old new : List ℕ} → a ≡ b → VisitsWritten a m k old new → VisitsWritten b m k old new
written_as {m = m} {k = k} {old = old} {new = new} = subst (λ (st : VisitedNodes). VisitsWritten st m k old new)
