-- Every state that the walk of dying nodes reaches is in order, the walk comes to rest, and it lists the dying nodes. Assumes nothing.
use Rattle.std.proofs.Common.{◌≡◌, refl, false, ℕ, zero, suc, ◌+◌, ◌-◌, ◌*◌, ◌^◌, ◌≤◌, ◌<◌, get_or, length, take, sym, ap, ◌∙◌, subst, ⊎_elim, arith, length-append, length-take-le, get_or-take, List, [], ◌∷◌, ◌++◌, pow_pos}
use mathlib.Core.List.Memᴰ
use mathlib.Core.List.{Memᴰ}
use Rattle.std.proofs.Math.ListN.{get_or-append}
use Rattle.std.proofs.lemmas.List.{get_or_at}
use Rattle.base.specs.Lists.{keep, over, Distinct, empty, one}
use Rattle.base.specs.ListLaws.{or-false, in_take, distinct_snoc}
use Rattle.base.specs.JoinLaws.{by_lt}
use Rattle.base.specs.Refusals.{Accepted}
use Rattle.dataflow_domains.specs.Mask.{bit, holds}
use Rattle.dataflow_domains.specs.MemberLaws.{in_members}
use Rattle.dataflow_domains.specs.MaskLaws.{bit_below, bit_empty, ones_bound, ones_zero}
use Rattle.dataflow_domains.specs.HoldsLaws.{holds_false}
use Rattle.borrow_analysis.specs.declared.triples.Triple.{Triple}
use Rattle.borrow_analysis.specs.Graph.{Graph, GraphInput, graph_of, check_graphs}
use Rattle.borrow_analysis.specs.Borrows.{get_parents, VisitedNodes, none_visited, collect_ancestors, dying_nodes_at, dying_nodes}
use Rattle.borrow_analysis.specs.Visiting.{ListedOnce}
use Rattle.borrow_analysis.specs.AncestorLaws.{parents_small, collect_grows}
use Rattle.borrow_analysis.specs.AcceptedLaws.{accepted_graphs}
use Rattle.borrow_analysis.specs.DyingLaws.{list_once, over_same}
use Rattle.borrow_analysis.specs.MeaningLaws.{parents_lt, live_lt}
use Rattle.ancestors.specs.Ancestors.{WalkState, at_rest, end_of, put, take_off, walk, used_in, listed_from, Reached, begin, start, next_step, InOrder, DyingWalk}
use Rattle.ancestors.specs.Walking.{StateBelow}
use Rattle.ancestors.proofs.StepLaws.{first_new_lem, put_below, off_below, by_step, walk_rest, walk_visits}

-- the front of a list that has each node once has each once
distinct_front : (n : ℕ) (xs : List ℕ) → Distinct xs → Distinct (take n xs)
distinct_front zero xs w = empty
distinct_front (suc n) [] w = empty
distinct_front (suc n) (x ∷ xs) (one out w) = one (λ i. out (in_take n xs i)) (distinct_front n xs w)

-- ---- one step

-- behind each node of a list a parent of it
record Linked (ts : List Triple) (path : List ℕ) : Type 0 where
  at : (i : ℕ) → suc i < length path → Memᴰ (get_or path (suc i) 0) (get_parents ts (get_or path i 0))

same_parent : (ts : List Triple) {p q x y : ℕ} → p ≡ q → x ≡ y → Memᴰ q (get_parents ts y) → Memᴰ p (get_parents ts x)
same_parent ts {p} {q} {x} {y} e f m = subst (λ (k : ℕ). Memᴰ k (get_parents ts x)) (sym e) (subst (λ (k : ℕ). Memᴰ q (get_parents ts k)) (sym f) m)

linked_more : {ts : List Triple} (w : WalkState) (n : ℕ) → Linked ts w.path → (0 < length w.path → Memᴰ n (get_parents ts (end_of w))) → Linked ts (w.path ++ (n ∷ []))
unfolding end_of
linked_more {ts} w n u up = record {
  at = λ i h. by_lt (suc i) (length w.path)
      (λ l. same_parent ts (get_or-append w.path (n ∷ []) 0 (suc i) l) (get_or-append w.path (n ∷ []) 0 i (omega arith)) (u.at i l))
      (λ l. let last : length w.path ≡ suc i = omega (arith, l, h, length-append w.path (n ∷ [])) in
      let end : i ≡ length w.path - 1 = omega (arith, last) in
      same_parent ts (get_or_at w.path n [] 0 (suc i) last) (get_or-append w.path (n ∷ []) 0 i (omega (arith, last)) ∙ ap (λ (j : ℕ). get_or w.path j 0) end) (up (omega (arith, last))));
}

linked_front : {ts : List Triple} (k : ℕ) (path : List ℕ) → Linked ts path → k ≤ length path → Linked ts (take k path)
linked_front {ts} k path u h = record {
  at = λ i l. let below : suc i < k = omega (arith, l, length-take-le k path h) in
      same_parent ts (get_or-take k path (suc i) 0 below) (get_or-take k path i 0 (omega arith)) (u.at i (omega (arith, below, h)));
}

-- in order, and below c
record Orderly (ts : List Triple) (c k : ℕ) (w : WalkState) : Type 0 where
  fits : StateBelow c w
  exact : ListedOnce w.visited
  once : Distinct w.path
  listed : (n : ℕ) → Memᴰ n w.path → Memᴰ n w.visited.listed
  linked : Linked ts w.path
  steps : k + length w.path ≡ 2 * length w.visited.listed

put_orderly : {ts : List Triple} {c k : ℕ} {w : WalkState} (n : ℕ) → Orderly ts c k w → n < c → holds w.visited.mask n ≡ false → (0 < length w.path → Memᴰ n (get_parents ts (end_of w))) → Orderly ts c (suc k) (put w n)
unfolding put
put_orderly {ts} {c} {k} {w} n g h e up = record {
  fits = (put_below c w g.fits n h e).0;
  exact = list_once w.visited n g.exact e;
  once = distinct_snoc n (λ i. let b : bit w.visited.mask n ≡ 0 = holds_false w.visited.mask n e in omega (arith, g.exact.seen n (g.listed n i))) g.once;
  listed = λ x i. ⊎_elim (λ a. Memᴰ.append_left (n ∷ []) (g.listed x a)) (λ b. Memᴰ.append_right w.visited.listed b) (Memᴰ.append_cases w.path i);
  linked = linked_more w n g.linked up;
  steps = omega (arith, g.steps, length-append w.path (n ∷ []), length-append w.visited.listed (n ∷ []));
}

off_orderly : {ts : List Triple} {c k : ℕ} {w : WalkState} → Orderly ts c k w → 0 < length w.path → Orderly ts c (suc k) (take_off w)
unfolding take_off
off_orderly {ts} {c} {k} {w} g h = record {
  fits = (off_below c w g.fits h).0;
  exact = g.exact;
  once = distinct_front (length w.path - 1) w.path g.once;
  listed = λ x i. g.listed x (in_take (length w.path - 1) w.path i);
  linked = linked_front (length w.path - 1) w.path g.linked (omega arith);
  steps = omega (arith, g.steps, length-take-le (length w.path - 1) w.path (omega arith));
}

none_orderly : (ts : List Triple) (c : ℕ) → Orderly ts c 0 (at_rest none_visited)
none_orderly ts c = record {
  fits = record { fair = record { each = sym ones_zero; small = pow_pos c }; short = omega arith };
  exact = record { distinct = empty; seen = λ x i. absurd (Memᴰ.not-nil i); listed = λ x b. absurd (omega (arith, bit_empty x)) };
  once = empty;
  listed = λ x i. i;
  linked = record { at = λ i h. absurd (omega arith) };
  steps = refl;
}

-- ---- every state that is reached

module _ (here next : Graph) (inside : (t : Triple) → Memᴰ t here.triples → t.parent < here.count) (small : here.live < 2 ^ here.count) where
  reached_orderly : {k : ℕ} {w : WalkState} → Reached here next k w → Orderly here.triples here.count k w
  reached_orderly begin = none_orderly here.triples here.count
  reached_orderly (start {k = k} {w = w} n r e b f) =
      put_orderly n (reached_orderly r) (bit_below here.live n here.count small b) (or-false _ _ f).0 (λ l. absurd (omega (arith, l, ap length e)))
  reached_orderly (next_step {k = k} {w = w} r h) =
      let g = reached_orderly r in
      by_step here.triples (used_in next) w (Orderly here.triples here.count (suc k)) (λ e. off_orderly g h)
      (λ p e. let f = first_new_lem w.visited.mask (used_in next) _ e in put_orderly p g (parents_small here.triples here.count inside (end_of w) p f.among) (or-false _ _ f.new).0 (λ l. f.among))

  listed_few : {w : WalkState} → StateBelow here.count w → length w.visited.listed ≤ here.count
  listed_few {w} fits = omega (arith, fits.fair.each, ones_bound here.count w.visited.mask fits.fair.small)

  reached_order : (k : ℕ) (w : WalkState) → Reached here next k w → InOrder here k w
  reached_order k w r =
      let g = reached_orderly r in
      record { once = g.once; listed = g.listed; linked = g.linked.at; steps = g.steps; bound = omega (arith, g.steps, listed_few g.fits) }

  reached_ends : (k : ℕ) (w : WalkState) → Reached here next k w → (walk (2 * here.count) here.triples (used_in next) w).path ≡ []
  reached_ends k w r =
      let fits = (reached_orderly r).fits in
      (walk_rest here.triples (used_in next) here.count inside (2 * here.count) w fits (omega (arith, fits.short, listed_few fits))).rest

  walks_list : (over (listed_from (2 * here.count) here next) none_visited (keep here.count 0 (holds here.live))).listed ≡ dying_nodes here next
  unfolding listed_from dying_nodes dying_nodes_at
  walks_list =
      ap (λ (s : VisitedNodes). s.listed)
      (sym (over_same here.triples (used_in next) here.count inside here.count (collect_ancestors here.count here.triples (used_in next)) (listed_from (2 * here.count) here next)
      (λ s n h w l. sym (walk_visits here.triples (used_in next) here.count inside (2 * here.count) s n h w (omega arith)))
      (λ s n h w. collect_grows here.triples (used_in next) here.count inside here.count s n h w) (keep here.count 0 (holds here.live))
      (λ x i. (in_members here.count here.live x i).0) none_visited (record { each = sym ones_zero; small = pow_pos here.count }) (omega arith)))

-- the walk of two accepted graphs
pub dying_walk : (here next : GraphInput) → check_graphs here next ≡ Accepted → DyingWalk (graph_of here) (graph_of next)
dying_walk here next e =
    let w = (accepted_graphs here next e).0 in
    let inside = parents_lt here w in
    let small = live_lt here w in
    record {
      in_order = reached_order (graph_of here) (graph_of next) inside small;
      ends = reached_ends (graph_of here) (graph_of next) inside small;
      lists = walks_list (graph_of here) (graph_of next) inside small;
    }
