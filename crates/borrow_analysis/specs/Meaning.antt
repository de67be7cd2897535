-- What the answers mean: paths over triples, nodes in use, conditional nodes, and the nodes that a walk of dying ones reaches. Assumes nothing.
use Rattle.std.specs.Prelude.{◌≡◌, Bool, true, ℕ, ◌≤◌, ◌<◌, List}
use mathlib.Core.List.{Memᴰ}
use Rattle.base.specs.Lists.{Distinct}
use Rattle.dataflow_domains.specs.Mask.{bit}
use Rattle.borrow_analysis.specs.declared.triples.Triple.{Triple}
use Rattle.borrow_analysis.specs.Graph.{Graph}
use Rattle.borrow_analysis.specs.Borrows.{incoming, dying_nodes_at}

-- m is n or a descendant of n: a path from parent to child, triple by triple
pub data Descends (ts : List Triple) : ℕ → ℕ → Type 0 where
  same : {n : ℕ} → Descends ts n n
  down : {m : ℕ} (t : Triple) → Memᴰ t ts → Descends ts t.child m → Descends ts t.parent m

-- n or a descendant of n is in the set m
pub record Reaches (ts : List Triple) (m n : ℕ) : Type 0 where
  pub node : ℕ
  pub path : Descends ts n node
  pub has : bit m node ≡ 1

-- in use: the node or a descendant is live
abbrev pub InUse : Graph → ℕ → Type 0
InUse g n = Reaches g.triples g.live n

-- conditional: the node or a descendant has more than one incoming triple
pub record Conditional (g : Graph) (n : ℕ) : Type 0 where
  pub node : ℕ
  pub path : Descends g.triples n node
  pub many : 1 < incoming g.triples node

-- the walk of dying nodes reaches n: it is live here, and neither live nor in use there; or it is a parent here, not in use there, of a node that the walk reaches
pub data Dies (here next : Graph) : ℕ → Type 0 where
  live : {n : ℕ} → bit here.live n ≡ 1 → (bit next.live n ≡ 1 → ⊥) → (InUse next n → ⊥) → Dies here next n
  parent : (t : Triple) → Memᴰ t here.triples → Dies here next t.child → (InUse next t.parent → ⊥) → Dies here next t.parent

-- the list has each node once, exactly the nodes that the walk reaches, and no node at or above the count; a node in use in the next graph is below that one's count;
-- the list is in the order of the visits, of which no depth from the count on cuts one off
pub record DyingList (here next : Graph) (listed : List ℕ) : Type 0 where
  pub once : Distinct listed
  pub only : (n : ℕ) → Memᴰ n listed → Dies here next n
  pub each : (n : ℕ) → Dies here next n → Memᴰ n listed
  pub below : (n : ℕ) → Memᴰ n listed → n < here.count
  pub used : (n : ℕ) → InUse next n → n < next.count
  pub order : (depth : ℕ) → here.count ≤ depth → listed ≡ dying_nodes_at depth here next

-- the test is true exactly where P holds
pub record Decides (test : Bool) (P : Type 0) : Type 0 where
  pub sound : test ≡ true → P
  pub complete : P → test ≡ true
