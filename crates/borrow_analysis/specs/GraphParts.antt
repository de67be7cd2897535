-- What the contracts and the loops of the calls' parts say of graphs and of sets of nodes. Assumes nothing.
use Rattle.std.specs.Prelude.{◌≡◌, List, ℕ, ◌+◌, ◌-◌, ◌*◌, ◌/◌, ◌^◌, ◌≤◌, ◌<◌, ltb, get_or, length}
use Rattle.base.specs.Sizes.{max_locals, max_triples}
use Rattle.base.specs.Lists.{tab}
use Rattle.dataflow_domains.specs.Mask.{holds, union, Sub}
use Rattle.borrow_analysis.specs.declared.triples.Triple.{Triple}
use Rattle.borrow_analysis.specs.Graph.{GraphInput}
use Rattle.borrow_analysis.specs.Borrows.{incoming, parents_in}

-- ---- a graph as it is handed over

-- each triple names nodes below c
pub record NodesBelow (c : ℕ) (xs : List ℕ) : Type 0 where
  pub parents : (i : ℕ) → i < length xs / 3 → get_or xs (3 * i) 0 < c
  pub children : (i : ℕ) → i < length xs / 3 → get_or xs (3 * i + 1) 0 < c

-- few nodes, the live ones among them, and so all nodes that triples name; few triples
pub record AcceptedGraph (g : GraphInput) : Type 0 where
  pub few : g.count ≤ max_locals
  pub short : length g.numbers / 3 ≤ max_triples
  pub small : g.live < 2 ^ g.count
  pub inside : NodesBelow g.count g.numbers

-- ---- sets of nodes

-- m has exactly the nodes to which more than one triple leads
pub record ManyIncoming (ts : List Triple) (m : ℕ) : Type 0 where
  pub each : (k : ℕ) → holds m k ≡ ltb 1 (incoming ts k)

-- `once` has exactly the nodes to which a triple leads, `many` those to which more than one does
pub record IncomingCounted (ts : List Triple) (once many : ℕ) : Type 0 where
  pub one : (k : ℕ) → holds once k ≡ ltb 0 (incoming ts k)
  pub two : (k : ℕ) → holds many k ≡ ltb 1 (incoming ts k)

-- one turn up, of n triples: g has m and the parents by the first i
pub record ParentsAdded (f : ℕ → Triple) (n m i g : ℕ) : Type 0 where
  pub has : Sub m g
  pub rest : parents_in (tab n 0 f) m ≡ union g (parents_in (tab (n - i) i f) m)
