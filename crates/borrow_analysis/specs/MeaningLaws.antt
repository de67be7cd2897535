-- The answers of accepted calls mean what Meaning says, on cycles too. Assumes nothing.
use Rattle.std.specs.Prelude.{◌≡◌, refl, Bool, true, false, cond, ℕ, ◌/◌, ◌^◌, ◌≤◌, ◌<◌, eqb, length, List, [], Result, Ok, ◌++◌, take, drop}
use Rattle.std.proofs.Common.{sym, ap, ◌∙◌, subst, ⊎_elim, arith, ltb-true, lt-ltb, pow_pos, true≢false}
use mathlib.Core.List.Memᴰ
use mathlib.Core.List.{Memᴰ}
use Rattle.base.specs.Lists.{over, empty}
use Rattle.base.specs.JoinLaws.{by_lt}
use Rattle.base.specs.TabLaws.{over_keeps}
use Rattle.base.specs.declared.Refusal.{Refusal}
use Rattle.base.specs.Refusals.{Verdict, Accepted, Reply, Done, reply, answer_of, output_after}
use Rattle.base.specs.ReplyLaws.{reply_done, done_result}
use Rattle.dataflow_domains.specs.Mask.{bit, holds}
use Rattle.dataflow_domains.specs.Members.{members}
use Rattle.dataflow_domains.specs.MemberLaws.{in_members, members_in}
use Rattle.dataflow_domains.specs.MaskLaws.{bit_below, bit_empty, ones_zero}
use Rattle.dataflow_domains.specs.HoldsLaws.{holds_true, true_holds}
use Rattle.borrow_analysis.specs.declared.triples.Triple.{Triple}
use Rattle.borrow_analysis.specs.Graph.{Graph, GraphInput, triple_at, triples_of, graph_of, check_asked, check_graphs}
use Rattle.borrow_analysis.specs.Borrows.{incoming, upward, above, is_in_use, many_in, is_conditional, VisitedNodes, none_visited, collect_ancestors, dying_nodes_at, dying_nodes, in_use_reply, conditional_reply, dying_reply}
use Rattle.borrow_analysis.specs.Meaning.{Descends, same, down, InUse, Conditional, Dies, live, parent, DyingList, Decides}
use Rattle.borrow_analysis.specs.GraphParts.{AcceptedGraph, ManyIncoming}
use Rattle.borrow_analysis.specs.Visiting.{VisitsWritten, ListedOnce, AllListed, VisitedAll}
use Rattle.borrow_analysis.specs.BorrowLaws.{above_reaches, reaches_above, in_use_reaches, reaches_in_use}
use Rattle.borrow_analysis.specs.TripleLaws.{many_out, many_lt, many_bits, incoming_out}
use Rattle.borrow_analysis.specs.CallLaws.{in_use_done, conditional_done, DyingListed, dying_done}
use Rattle.borrow_analysis.specs.AcceptedLaws.{accepted_asked, accepted_graphs}
use Rattle.borrow_analysis.specs.AncestorLaws.{collect_grows}
use Rattle.borrow_analysis.specs.VisitLaws.{parents_below}
use Rattle.borrow_analysis.specs.DyingLaws.{collect_once, collect_only, over_visits, collect_visits, over_same, collect_depth}

-- ---- an accepted graph's triples

pub parents_lt : (g : GraphInput) → AcceptedGraph g → (t : Triple) → Memᴰ t (graph_of g).triples → t.parent < (graph_of g).count
unfolding graph_of
parents_lt g w t i = parents_below w.inside t i

pub live_lt : (g : GraphInput) → AcceptedGraph g → (graph_of g).live < 2 ^ (graph_of g).count
unfolding graph_of
live_lt g w = w.small

-- more than one triple leads only to a node below the count
many_below : (g : GraphInput) → AcceptedGraph g → (x : ℕ) → 1 < incoming (graph_of g).triples x → x < (graph_of g).count
unfolding graph_of
many_below g w x h =
    by_lt x g.count (λ l. l)
    (λ l. absurd (omega (arith, h, incoming_out (length g.numbers / 3) 0 g.count (triple_at g.numbers) x (λ k q. w.inside.children k (omega arith)) l)))

-- ---- yes is 1

yes_decides : (b : Bool) {P : Type 0} → Decides b P → Decides (eqb (cond b 1 0) 1) P
yes_decides true w = w
yes_decides false w = w

-- the answer of an accepted call, and what it means
pub record Answers (r : Reply) (P : Type 0) (yes : ℕ) : Type 0 where
  pub result : ◌≡◌ {A = Result ℕ Refusal} (Ok yes) (answer_of r)
  pub means : Decides (eqb yes 1) P

answers : {v : Verdict} (b : Bool) {P : Type 0} {yes : ℕ} → v ≡ Accepted → ◌≡◌ {A = Result ℕ Refusal} (Ok yes) (answer_of (reply v (Done (cond b 1 0) []))) → Decides b P → Answers (reply v (Done (cond b 1 0) [])) P yes
answers b {P} {yes} ok e w =
    let is : ◌≡◌ {A = Result ℕ Refusal} (Ok yes) (Ok (cond b 1 0)) = e ∙ ap answer_of (reply_done (Done (cond b 1 0) []) ok) in
    let same : yes ≡ cond b 1 0 = cc in
    record { result = e; means = subst (λ (n : ℕ). Decides (eqb n 1) P) (sym same) (yes_decides b w) }

-- the result of an accepted call: a value, which is 1 exactly where P holds
answer_decides : {v : Verdict} (b : Bool) {P : Type 0} {r : Result ℕ Refusal} → v ≡ Accepted → Decides b P → r ≡ answer_of (reply v (Done (cond b 1 0) []))
    → (yes : ℕ) × (r ≡ Ok yes) × Decides (eqb yes 1) P
answer_decides b ok w e = (cond b 1 0, e ∙ ap answer_of (reply_done (Done (cond b 1 0) []) ok), yes_decides b w)

-- ---- in use

in_use_decides : (g : GraphInput) → AcceptedGraph g → (n : ℕ) → Decides (is_in_use (graph_of g) n) (InUse (graph_of g) n)
in_use_decides g w n = record {
  sound = λ e. in_use_reaches (graph_of g) n e;
  complete = λ r. reaches_in_use (graph_of g) n (parents_lt g w) (live_lt g w) r;
}

-- the answer is yes exactly where the node or a descendant of it is live
pub in_use_means : (g : GraphInput) (node : ℕ) → check_asked g node ≡ Accepted → Decides (is_in_use (graph_of g) node) (InUse (graph_of g) node)
in_use_means g node e = in_use_decides g (accepted_asked g node e).0 node

-- so of an accepted call the result is a value, which is 1 exactly where the node is in use
pub in_use_answer : (g : GraphInput) (node : ℕ) {r : Result ℕ Refusal} → check_asked g node ≡ Accepted → r ≡ answer_of (in_use_reply g node)
    → (yes : ℕ) × (r ≡ Ok yes) × Decides (eqb yes 1) (InUse (graph_of g) node)
unfolding in_use_reply
in_use_answer g node a e = answer_decides _ a (in_use_means g node a) e

-- the answer by the bit that the call reads, and its meaning; h is the graph that was accepted
pub in_use_bit : (g : GraphInput) (node : ℕ) {h : GraphInput} {yes : ℕ} → check_asked g node ≡ Accepted → h ≡ g → yes ≡ cond (holds (upward h.count (triples_of h.numbers) h.live) node) 1 0
    → Answers (in_use_reply g node) (InUse (graph_of g) node) yes
unfolding in_use_reply
in_use_bit g node {h} {yes} a e f =
    let is : yes ≡ cond (holds (upward g.count (triples_of g.numbers) g.live) node) 1 0 = rw e at f in
    answers _ a (done_result is (in_use_done g node _ _ a refl refl)) (in_use_means g node a)

-- a node in use is below the count
in_use_below : (g : GraphInput) → AcceptedGraph g → (n : ℕ) → InUse (graph_of g) n → n < (graph_of g).count
in_use_below g w n r = go r.path r.has
  where
    go : {n x : ℕ} → Descends (graph_of g).triples n x → bit (graph_of g).live x ≡ 1 → n < (graph_of g).count
    go (same {n = n}) h = bit_below (graph_of g).live n (graph_of g).count (live_lt g w) h
    go (down t i p) h = parents_lt g w t i

-- ---- conditional

conditional_sound : (g : Graph) (n : ℕ) → is_conditional g n ≡ true → Conditional g n
unfolding is_conditional above
conditional_sound g n e =
    let r = above_reaches g.count g.triples (many_in g.count 0 g.triples) n (holds_true _ n e) in
    record { node = r.node; path = r.path; many = from_many r.node (true_holds _ r.node r.has) }
  where
    from_many : (x : ℕ) → holds (many_in g.count 0 g.triples) x ≡ true → 1 < incoming g.triples x
    from_many x h =
        by_lt x g.count (λ l. ltb-true 1 (incoming g.triples x) (sym (many_bits g.count 0 x g.triples (omega arith) (omega arith)) ∙ h))
        (λ l. absurd (true≢false (sym h ∙ many_out g.count 0 x g.triples (λ a b. omega arith))))

conditional_complete : (g : Graph) (n : ℕ) → ((t : Triple) → Memᴰ t g.triples → t.parent < g.count) → ((x : ℕ) → 1 < incoming g.triples x → x < g.count) → Conditional g n → is_conditional g n ≡ true
unfolding is_conditional above
conditional_complete g n inside below r =
    let l : r.node < g.count = below r.node r.many in
    let h : holds (many_in g.count 0 g.triples) r.node ≡ true = many_bits g.count 0 r.node g.triples (omega arith) (omega arith) ∙ lt-ltb 1 (incoming g.triples r.node) r.many in
    true_holds _ n (reaches_above g.triples g.count inside (many_in g.count 0 g.triples) (many_lt g.count 0 g.count g.triples (omega arith))
    (record { node = r.node; path = r.path; has = holds_true _ r.node h }))

-- the answer is yes exactly where more than one triple leads to the node or to a descendant of it
pub conditional_means : (g : GraphInput) (node : ℕ) → check_asked g node ≡ Accepted → Decides (is_conditional (graph_of g) node) (Conditional (graph_of g) node)
conditional_means g node e = let w = (accepted_asked g node e).0 in
    record { sound = conditional_sound (graph_of g) node; complete = conditional_complete (graph_of g) node (parents_lt g w) (many_below g w) }

-- so of an accepted call the result is a value, which is 1 exactly where the node is conditional
pub conditional_answer : (g : GraphInput) (node : ℕ) {r : Result ℕ Refusal} → check_asked g node ≡ Accepted → r ≡ answer_of (conditional_reply g node)
    → (yes : ℕ) × (r ≡ Ok yes) × Decides (eqb yes 1) (Conditional (graph_of g) node)
unfolding conditional_reply
conditional_answer g node a e = answer_decides _ a (conditional_means g node a) e

-- the answer by the bit that the call reads, and its meaning; h is the graph that was accepted
pub conditional_bit : (g : GraphInput) (node : ℕ) {h : GraphInput} {m yes : ℕ} → check_asked g node ≡ Accepted → h ≡ g → ManyIncoming (triples_of h.numbers) m
    → yes ≡ cond (holds (upward h.count (triples_of h.numbers) m) node) 1 0 → Answers (conditional_reply g node) (Conditional (graph_of g) node) yes
unfolding conditional_reply
conditional_bit g node {h} {m} {yes} a e w f =
    let is : yes ≡ cond (holds (upward g.count (triples_of g.numbers) m) node) 1 0 = rw e at f in
    let many : ManyIncoming (triples_of g.numbers) m = rw e at w in
    answers _ a (done_result is (conditional_done g node _ _ a refl many)) (conditional_means g node a)

-- ---- dying

module _ (here next : Graph) (inside : (t : Triple) → Memᴰ t here.triples → t.parent < here.count) (small : here.live < 2 ^ here.count)
    (there : (n : ℕ) → Decides (is_in_use next n) (InUse next n)) (low : (n : ℕ) → InUse next n → n < next.count) where
  abbrev used : ℕ
  used = above next next.live

  abbrev roots : List ℕ
  roots = members here.count here.live

  abbrev step : VisitedNodes → ℕ → VisitedNodes
  step = collect_ancestors here.count here.triples used

  -- in the set of those in use exactly where in use
  used_in_lem : (n : ℕ) → holds used n ≡ true → InUse next n
  unfolding is_in_use
  used_in_lem n e = (there n).sound e

  unused : (n : ℕ) → holds used n ≡ false → InUse next n → ⊥
  unfolding is_in_use
  unused n e r = true≢false (sym ((there n).complete r) ∙ e)

  end_once : ListedOnce (over step none_visited roots)
  end_once =
      over_keeps ListedOnce step roots none_visited (λ s n i w. collect_once here.triples used here.count s n w)
      (record { distinct = empty; seen = λ x i. absurd (Memᴰ.not-nil i); listed = λ x b. absurd (omega (arith, bit_empty x)) })

  end_only : AllListed (Dies here next) (over step none_visited roots)
  end_only =
      over_keeps (AllListed (Dies here next)) step roots none_visited
      (λ s n i w. collect_only here.triples used (Dies here next) (λ t m h e. parent t m h (unused t.parent e)) here.count s n (λ e. first n i e) w)
      (record { each = λ x i. absurd (Memᴰ.not-nil i) })
    where
      first : (n : ℕ) → Memᴰ n roots → holds used n ≡ false → Dies here next n
      first n i e =
          live (in_members here.count here.live n i).1 (λ b. unused n e (record { node = n; path = same; has = b })) (unused n e)

  end_visits : VisitedAll here.triples used here.count none_visited (over step none_visited roots) roots
  end_visits =
      over_visits here.triples used here.count inside here.count step (collect_visits here.triples used here.count inside here.count) roots
      (λ x i. (in_members here.count here.live x i).0) none_visited (record { each = sym ones_zero; small = pow_pos here.count }) (omega arith)

  end_each : {n : ℕ} → Dies here next n → bit (over step none_visited roots).mask n ≡ 1
  end_each (live {n = n} b l u) =
      ⊎_elim (λ h. h) (λ h. absurd (u (used_in_lem n h))) (end_visits.settled n (members_in here.count here.live n (bit_below here.live n here.count small b) b)).either
  end_each (parent t i r u) =
      ⊎_elim (λ b. absurd (omega (arith, bit_empty t.child)))
      (λ f. ⊎_elim (λ h. h) (λ h. absurd (u (used_in_lem t.parent h))) (f t i refl).either) (end_visits.closed.each t.child (end_each r))

  -- the order is that of the visits at any depth from the count on
  end_order : (depth : ℕ) → here.count ≤ depth → (over step none_visited roots).listed ≡ (over (collect_ancestors depth here.triples used) none_visited roots).listed
  end_order depth k =
      ap (λ (s : VisitedNodes). s.listed)
      (over_same here.triples used here.count inside here.count step (collect_ancestors depth here.triples used)
      (λ s n h w l. collect_depth here.triples used here.count inside here.count depth s n h w l k)
      (λ s n h w. collect_grows here.triples used here.count inside here.count s n h w) roots
      (λ x i. (in_members here.count here.live x i).0) none_visited (record { each = sym ones_zero; small = pow_pos here.count }) (omega arith))

  dying_all : DyingList here next (dying_nodes here next)
  unfolding dying_nodes dying_nodes_at
  dying_all = record {
    once = end_once.distinct;
    only = end_only.each;
    each = λ n r. end_once.listed n (end_each r);
    below = λ n i. bit_below _ n here.count end_visits.grows.fair.small (end_once.seen n i);
    used = low;
    order = end_order;
  }

-- the listed nodes are each listed once, and are exactly those that the walk reaches
pub dying_means : (here next : GraphInput) → check_graphs here next ≡ Accepted → DyingList (graph_of here) (graph_of next) (dying_nodes (graph_of here) (graph_of next))
dying_means here next e = let w = accepted_graphs here next e in
    dying_all (graph_of here) (graph_of next) (parents_lt here w.0) (live_lt here w.0) (λ n. in_use_decides next w.1 n) (λ n r. in_use_below next w.1 n r)

-- the answer, what was lent and the meaning; h and n are the graphs that were accepted
pub record DyingAnswer (here next : GraphInput) (k : ℕ) (lent new : List ℕ) : Type 0 where
  pub result : ◌≡◌ {A = Result ℕ Refusal} (Ok k) (answer_of (dying_reply here next (length lent)))
  pub written : new ≡ output_after (dying_reply here next (length lent)) lent
  pub means : DyingList (graph_of here) (graph_of next) (take k new)

dying_listed : (here next : GraphInput) {k : ℕ} {lent new : List ℕ} → check_graphs here next ≡ Accepted → DyingListed here next k lent new → DyingAnswer here next k lent new
dying_listed here next a r = record { result = r.result; written = r.written; means = subst (DyingList (graph_of here) (graph_of next)) (sym r.front) (dying_means here next a) }

pub dying_answer : (here next : GraphInput) (lent : List ℕ) {h n : GraphInput} {used m k : ℕ} {part : List ℕ} → check_graphs here next ≡ Accepted → h ≡ here → n ≡ next → h.count ≤ length lent
    → used ≡ upward n.count (triples_of n.numbers) n.live → (let c = length (take h.count lent) in
    VisitsWritten (over (collect_ancestors c (triples_of h.numbers) used) none_visited (members c h.live)) m k (take h.count lent) part × (k ≤ c))
    → DyingAnswer here next k lent (part ++ drop h.count lent)
dying_answer here next lent {h} {n} {used} {m} {k} {part} a e f l u came =
    let same : check_graphs h n ≡ Accepted = rw (e, f) a in
    subst (λ (g : GraphInput). DyingAnswer g next k lent (part ++ drop h.count lent)) e
    (subst (λ (g : GraphInput). DyingAnswer h g k lent (part ++ drop h.count lent)) f (dying_listed h n same (dying_done h n lent same l u came)))
