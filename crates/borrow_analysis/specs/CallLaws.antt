-- What the calls reply, of what their parts found. Assumes nothing.
use Rattle.std.specs.Prelude.{◌≡◌, refl, cond, List, [], ◌++◌, ℕ, ◌/◌, ◌≤◌, ◌<◌, length, take, drop, Ok, Err}
use Rattle.std.proofs.Common.{sym, ap, ◌∙◌, arith, take_at, length-take-le}
use Rattle.base.specs.declared.Refusal.{Refusal}
use Rattle.base.specs.declared.Refusal.TheVariants.{OutputShort}
use Rattle.base.specs.Lists.{over}
use Rattle.base.specs.ReplyLaws.{reply_refused, reply_done, call_refused, call_short, call_done, done_result, done_output}
use Rattle.base.specs.Refusals.{Accepted, lends, Done, answer_of, output_after}
use Rattle.dataflow_domains.specs.Mask.{holds}
use Rattle.dataflow_domains.specs.Members.{members}
use Rattle.borrow_analysis.specs.Graph.{GraphInput, triple_at, triples_of, graph_of, check_asked, check_graphs}
use Rattle.borrow_analysis.specs.Borrows.{upward, above, is_in_use, many_in, is_conditional, VisitedNodes, none_visited, collect_ancestors, dying_nodes_at, dying_nodes, in_use_reply, conditional_reply, dying_reply}
use Rattle.borrow_analysis.specs.GraphParts.{ManyIncoming}
use Rattle.borrow_analysis.specs.Visiting.{VisitsWritten}
use Rattle.borrow_analysis.specs.TripleLaws.{many_is, incoming_out}
use Rattle.borrow_analysis.specs.VisitLaws.{written_part}
use Rattle.borrow_analysis.specs.AcceptedLaws.{accepted_asked}

-- ---- in use, conditional

module _ (g : GraphInput) (node : ℕ) where
  pub in_use_refused : {e : Refusal} → check_asked g node ≡ Err e → in_use_reply g node ≡ Err e
  unfolding in_use_reply
  in_use_refused q = reply_refused _ q

  pub conditional_refused : {e : Refusal} → check_asked g node ≡ Err e → conditional_reply g node ≡ Err e
  unfolding conditional_reply
  conditional_refused q = reply_refused _ q

  -- m are the nodes above those of n
  pub in_use_done : (m n : ℕ) → check_asked g node ≡ Accepted → m ≡ upward g.count (triples_of g.numbers) n → n ≡ g.live
      → in_use_reply g node ≡ Done (cond (holds m node) 1 0) []
  unfolding in_use_reply is_in_use above graph_of
  in_use_done m n a e f = rw (e, f) (reply_done _ a)

  pub conditional_done : (m n : ℕ) → check_asked g node ≡ Accepted → m ≡ upward g.count (triples_of g.numbers) n → ManyIncoming (triples_of g.numbers) n
      → conditional_reply g node ≡ Done (cond (holds m node) 1 0) []
  unfolding conditional_reply is_conditional above graph_of
  conditional_done m n a e w =
      let children = (accepted_asked g node a).0.inside.children in
      let is : n ≡ many_in g.count 0 (triples_of g.numbers) =
      many_is g.count n (triples_of g.numbers) w (λ j l. incoming_out (length g.numbers / 3) 0 g.count (triple_at g.numbers) j (λ k q. children k (omega arith)) l) in
      rw (e, is) (reply_done _ a)

-- ---- dying

module _ (here next : GraphInput) (lent : ℕ) where
  pub dying_refused : {e : Refusal} → check_graphs here next ≡ Err e → dying_reply here next lent ≡ Err e
  unfolding dying_reply
  dying_refused q = call_refused (lends lent here.count) _ q

  pub dying_short : check_graphs here next ≡ Accepted → lent < here.count → dying_reply here next lent ≡ Err OutputShort
  unfolding dying_reply
  dying_short q h = call_short _ q h

-- the visits start from the live nodes here, and pass over those in use there
dying_listed : (here next : GraphInput) {used : ℕ} → used ≡ upward next.count (triples_of next.numbers) next.live
    → (over (collect_ancestors here.count (triples_of here.numbers) used) none_visited (members here.count here.live)).listed ≡ dying_nodes (graph_of here) (graph_of next)
unfolding dying_nodes dying_nodes_at above graph_of
dying_listed here next u = ap (λ (x : ℕ). (over (collect_ancestors here.count (triples_of here.numbers) x) none_visited (members here.count here.live)).listed) u

written_front : {st : VisitedNodes} {m k : ℕ} {old new : List ℕ} → VisitsWritten st m k old new → take k new ≡ st.listed
written_front {st} {k = k} {old = old} w = ap (take k) w.wrote ∙ take_at st.listed (drop (length st.listed) old) k (sym w.count)

-- they came to k nodes
pub record DyingListed (here next : GraphInput) (k : ℕ) (lent new : List ℕ) : Type 0 where
  pub result : Ok k ≡ answer_of (dying_reply here next (length lent))
  pub written : new ≡ output_after (dying_reply here next (length lent)) lent
  pub front : take k new ≡ dying_nodes (graph_of here) (graph_of next)

-- they were written into the lent bytes' first part, one for each node
pub dying_done : (here next : GraphInput) (lent : List ℕ) {used m k : ℕ} {part : List ℕ} → check_graphs here next ≡ Accepted → here.count ≤ length lent
    → used ≡ upward next.count (triples_of next.numbers) next.live → (let c = length (take here.count lent) in
    VisitsWritten (over (collect_ancestors c (triples_of here.numbers) used) none_visited (members c here.live)) m k (take here.count lent) part × (k ≤ c))
    → DyingListed here next k lent (part ++ drop here.count lent)
unfolding dying_reply
dying_done here next lent {used} {m} {k} {part} a h u came =
    let size = length-take-le here.count lent h in
    let is = ap (λ (c : ℕ). (over (collect_ancestors c (triples_of here.numbers) used) none_visited (members c here.live)).listed) size ∙ dying_listed here next u in
    let whole = written_part _ lent here.count h came.0 (omega (arith, size, came.1)) in
    let done = call_done _ a h in
    record {
      result = done_result (whole.count ∙ ap length is) done;
      written = done_output lent refl done (whole.wrote ∙ ap (λ (l : List ℕ). l ++ drop (length l) lent) is);
      front = written_front whole ∙ is;
    }
