-- What the contracts and the loops of the walk say: the state that the code holds, the scans, and one step. Assumes nothing.
use Rattle.std.specs.Prelude.{◌≡◌, true, List, [], ◌∷◌, ◌++◌, ℕ, ◌^◌, ◌/◌, ◌≤◌, ◌<◌, get_or, length}
use Rattle.base.specs.Sizes.{max_locals}
use Rattle.base.specs.Lists.{over}
use Rattle.dataflow_domains.specs.Mask.{union}
use Rattle.dataflow_domains.specs.Members.{members}
use Rattle.dataflow_domains.specs.Sets.{mask}
use Rattle.borrow_analysis.specs.declared.triples.Triple.{Triple}
use Rattle.borrow_analysis.specs.Graph.{triples_of}
use Rattle.borrow_analysis.specs.Borrows.{get_parents, VisitedNodes, none_visited, collect_ancestors}
use Rattle.borrow_analysis.specs.Visiting.{ListedBelow}
use Rattle.ancestors.specs.declared.Walk.{Walk}
use Rattle.ancestors.specs.Chains.{parent_at, child_at}
use Rattle.ancestors.specs.Ancestors.{WalkState, passed_over, one_step}

-- ---- states

-- as many nodes are listed as visited, each below c, and no more are on the list
pub record StateBelow (c : ℕ) (w : WalkState) : Type 0 where
  pub fair : ListedBelow c w.visited
  pub short : length w.path ≤ length w.visited.listed

-- the nodes that the code has listed, and its state
abbrev pub listed_by : Walk → VisitedNodes
listed_by w = record { mask = mask w.nodes; listed = w.listed.items }

abbrev pub state_of : Walk → WalkState
state_of w = record { path = w.path.items; visited = listed_by w }

-- ---- what is still to be visited

-- from a list on: the parents of each of its nodes, those of its end first
unfoldable pub rest_of : (VisitedNodes → ℕ → VisitedNodes) → List Triple → List ℕ → VisitedNodes → VisitedNodes
rest_of visit ts [] st = st
rest_of visit ts (x ∷ xs) st = over visit (rest_of visit ts xs st) (get_parents ts x)

abbrev pub rest_from : List Triple → ℕ → ℕ → WalkState → VisitedNodes
rest_from ts used c w = rest_of (collect_ancestors c ts used) ts w.path w.visited

-- ---- the scans

-- the scan of x through its triples is at i, one of them or behind the last: each parent before it is passed over
pub record Scanned (xs : List ℕ) (m used x i : ℕ) : Type 0 where
  pub fits : i ≤ length xs / 3
  pub own : i < length xs / 3 → child_at xs i ≡ x
  pub passed : (t : ℕ) → t < i → child_at xs t ≡ x → passed_over m used (parent_at xs t) ≡ true

-- a scan that is at i can go on to j, whatever its node is
pub record ScansOn (xs : List ℕ) (m used i j : ℕ) : Type 0 where
  pub each : (x : ℕ) → Scanned xs m used x i → Scanned xs m used x j

-- the place of each node's scan is kept
pub record Kept (xs : List ℕ) (m used : ℕ) (kept : List ℕ) : Type 0 where
  pub long : length kept ≡ max_locals
  pub each : (x : ℕ) → x < max_locals → Scanned xs m used x (get_or kept x 0)

-- ---- the walk

-- there is room for every node, those of the list fit into a set, and the kept places are right
pub record Going (xs : List ℕ) (used : ℕ) (w : Walk) : Type 0 where
  pub fits : StateBelow max_locals (state_of w)
  pub below : (i : ℕ) → i < length w.path.items → get_or w.path.items i 0 < max_locals
  pub scans : Kept xs (mask w.nodes) used w.scans

-- n was listed and put at the end
pub record PutOn (w : Walk) (n : ℕ) (w₁ : Walk) : Type 0 where
  pub nodes : mask w₁.nodes ≡ union (mask w.nodes) (2 ^ n)
  pub listed : w₁.listed.items ≡ w.listed.items ++ (n ∷ [])
  pub path : w₁.path.items ≡ w.path.items ++ (n ∷ [])
  pub scans : w₁.scans ≡ w.scans

-- one step was made
pub record Stepped (xs : List ℕ) (used : ℕ) (w w₁ : Walk) : Type 0 where
  pub going : Going xs used w₁
  pub state : state_of w₁ ≡ one_step (triples_of xs) used (state_of w)

-- the walk so far, from w₀ on: what is still to be visited comes to what it came to then
pub record WalkSoFar (xs : List ℕ) (used : ℕ) (w₀ w : Walk) : Type 0 where
  pub going : Going xs used w
  pub work : rest_from (triples_of xs) used max_locals (state_of w) ≡ rest_from (triples_of xs) used max_locals (state_of w₀)

-- the walks from the nodes of `from`, of c nodes, when those of `left` are to come
pub record WalksSoFar (xs : List ℕ) (used c from left : ℕ) (w : Walk) : Type 0 where
  pub going : Going xs used w
  pub rests : w.path.items ≡ []
  pub small : left < 2 ^ c
  pub work : over (collect_ancestors max_locals (triples_of xs) used) none_visited (members c from) ≡ over (collect_ancestors max_locals (triples_of xs) used) (listed_by w) (members c left)
