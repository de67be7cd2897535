-- What an accepted graph is like. Assumes nothing.
use Rattle.std.specs.Prelude.{◌≡◌, refl, Bool, true, false, cond, ◌&&◌, List, ℕ, ◌+◌, ◌*◌, ◌/◌, ◌%◌, ◌^◌, ◌≤◌, ◌<◌, eqb, leb, ltb, get_or, length, Option, None, Some}
use Rattle.std.proofs.Common.{arith, leb-true, ltb-true}
use Rattle.base.specs.declared.Refusal.TheVariants.{Nodes, Triples, AskedNode}
use Rattle.base.specs.Sizes.{max_locals, max_triples}
use Rattle.base.specs.ListLaws.{and-true}
use Rattle.base.specs.SearchLaws.{none_all}
use Rattle.base.specs.RefusalLaws.{passed, passed_whole, passed_check}
use Rattle.base.specs.Refusals.{Accepted}
use Rattle.borrow_analysis.specs.Graph.{GraphInput, nodes_ok, triple_ok, length_place, triples_bad, check_asked, next_nodes, next_triples, check_graphs}
use Rattle.borrow_analysis.specs.GraphParts.{NodesBelow, AcceptedGraph}

-- ---- an accepted graph

ok_inside : (count : ℕ) (xs : List ℕ) (i : ℕ) → triple_ok count xs i ≡ true → (get_or xs (3 * i) 0 < count) × (get_or xs (3 * i + 1) 0 < count)
unfolding triple_ok
ok_inside count xs i e =
    let r = and-true (ltb (get_or xs (3 * i) 0) count && ltb (get_or xs (3 * i + 1) 0) count) _ e in
    let q = and-true (ltb (get_or xs (3 * i) 0) count) (ltb (get_or xs (3 * i + 1) 0) count) r.0 in
    (ltb-true _ _ q.0, ltb-true _ _ q.1)

none_bad : (b : Bool) (o : Option ℕ) → cond b o (Some length_place) ≡ None → (b ≡ true) × (o ≡ None)
none_bad true o f = (refl, f)
none_bad false o f = absurd (let z : ◌≡◌ {A = ℕ} 0 1 = cc in omega arith)

inside_of : (count : ℕ) (xs : List ℕ) → triples_bad count xs ≡ None → NodesBelow count xs
unfolding triples_bad
inside_of count xs e =
    let n = length xs in
    let ok : (i : ℕ) → i < n / 3 → triple_ok count xs i ≡ true = λ i h. none_all (n / 3) 0 (triple_ok count xs) (none_bad (eqb (n % 3) 0 && leb (n / 3) max_triples) _ e).1 i (omega arith) (omega arith) in
    record { parents = λ i h. (ok_inside count xs i (ok i h)).0; children = λ i h. (ok_inside count xs i (ok i h)).1 }

short_of : (count : ℕ) (xs : List ℕ) → triples_bad count xs ≡ None → length xs / 3 ≤ max_triples
unfolding triples_bad
short_of count xs e = let n = length xs in leb-true _ _ (and-true (eqb (n % 3) 0) (leb (n / 3) max_triples) (none_bad (eqb (n % 3) 0 && leb (n / 3) max_triples) _ e).0).1

pub accepted_graph : (g : GraphInput) → nodes_ok g.count g.live ≡ true → triples_bad g.count g.numbers ≡ None → AcceptedGraph g
unfolding nodes_ok
accepted_graph g a o = let r = and-true (leb g.count max_locals) (ltb g.live (2 ^ g.count)) a in
    record { few = leb-true _ _ r.0; short = short_of g.count g.numbers o; small = ltb-true _ _ r.1; inside = inside_of g.count g.numbers o }

-- accepted: the graph is, and the asked node is one of it
pub accepted_asked : (g : GraphInput) (node : ℕ) → check_asked g node ≡ Accepted → AcceptedGraph g × (node < g.count)
unfolding check_asked
accepted_asked g node e =
    let twelve = passed _ _ e in
    let thirteen = passed _ _ twelve.next in
    (accepted_graph g (passed_whole (Nodes 0) _ twelve.first) (passed_check Triples _ thirteen.first), ltb-true node g.count (passed_whole AskedNode _ thirteen.next))

-- accepted: both graphs are
pub accepted_graphs : (here next : GraphInput) → check_graphs here next ≡ Accepted → AcceptedGraph here × AcceptedGraph next
unfolding check_graphs
accepted_graphs here next e =
    let one = passed _ _ e in
    let two = passed _ _ one.next in
    let three = passed _ _ two.next in (
      accepted_graph here (passed_whole (Nodes 0) _ one.first) (passed_check Triples _ three.first),
      accepted_graph next (passed_whole (Nodes next_nodes) _ two.first) (passed_check (λ p. Triples (next_triples + p)) _ three.next),
    )

-- nodes below a are below a larger b
pub inside_wider : {a b : ℕ} (xs : List ℕ) → a ≤ b → NodesBelow a xs → NodesBelow b xs
inside_wider xs h w = record { parents = λ i l. omega (arith, w.parents i l); children = λ i l. omega (arith, w.children i l) }
