-- The walk over the ancestors of dying nodes as states and one step: a list that grows and shrinks, which is the path, and the nodes listed. Assumes nothing.
use Rattle.std.specs.Prelude.{ℕ, zero, suc, ◌+◌, ◌-◌, ◌*◌, ◌≤◌, ◌<◌, ◌≡◌, Bool, false, cond, ◌||◌, eqb, get_or, length, take, List, [], ◌∷◌, ◌++◌, Option, None, Some}
use mathlib.Core.List.{Memᴰ}
use Rattle.base.specs.Lists.{keep, over, Distinct}
use Rattle.dataflow_domains.specs.Mask.{bit, holds}
use Rattle.borrow_analysis.specs.declared.triples.Triple.{Triple}
use Rattle.borrow_analysis.specs.Graph.{Graph}
use Rattle.borrow_analysis.specs.Borrows.{get_parents, above, VisitedNodes, none_visited, list_node, dying_nodes}

-- ---- states

-- the list, and the nodes listed
pub record WalkState : Type 0 where
  pub path : List ℕ
  pub visited : VisitedNodes

-- nothing is on the list
abbrev pub at_rest : VisitedNodes → WalkState
at_rest st = record { path = []; visited = st }

-- the list's end
unfoldable pub end_of : WalkState → ℕ
end_of w = get_or w.path (length w.path - 1) 0

-- n is listed and put at the end
unfoldable pub put : WalkState → ℕ → WalkState
put w n = record {
  path = w.path ++ (n ∷ []);
  visited = list_node w.visited n;
}

-- the end is taken off
unfoldable pub take_off : WalkState → WalkState
take_off w = record {
  path = take (length w.path - 1) w.path;
  visited = w.visited;
}

-- ---- one step

-- n is one of m, the nodes listed, or in `used`
abbrev pub passed_over : ℕ → ℕ → ℕ → Bool
passed_over m used n = holds m n || holds used n

-- the first of these nodes that is not
unfoldable pub first_new : ℕ → ℕ → List ℕ → Option ℕ
first_new m used [] = None
first_new m used (p ∷ ps) = cond (passed_over m used p) (first_new m used ps) (Some p)

-- the end looks through its parents, from the first triple on: a new one is put, and where there is none the end is taken off
unfoldable pub one_step : List Triple → ℕ → WalkState → WalkState
one_step ts used w =
    elim (first_new w.visited.mask used (get_parents ts (end_of w))) [
      | None ↦ take_off w
      | Some p ↦ put w p
    ]

-- at most k steps, until nothing is on the list
unfoldable pub walk : ℕ → List Triple → ℕ → WalkState → WalkState
walk zero ts used w = w
walk (suc k) ts used w = cond (eqb (length w.path) 0) w (walk k ts used (one_step ts used w))

-- a walk starts with n, unless it passes over it
unfoldable pub start_at : ℕ → VisitedNodes → ℕ → WalkState
start_at used st n = cond (passed_over st.mask used n) (at_rest st) (put (at_rest st) n)

-- ---- the walks of dying nodes

-- the nodes that are in use there
abbrev pub used_in : Graph → ℕ
used_in next = above next next.live

-- what is listed from n on, in at most k steps
unfoldable pub listed_from : ℕ → Graph → Graph → VisitedNodes → ℕ → VisitedNodes
listed_from k here next st n = (walk k here.triples (used_in next) (start_at (used_in next) st n)).visited

-- a state that is reached by k puts and takings off: at rest a node that is live here and not passed over is put, else one step is made
pub data Reached (here next : Graph) : ℕ → WalkState → Type 0 where
  begin : Reached here next 0 (at_rest none_visited)
  start : {k : ℕ} {w : WalkState} (n : ℕ) → Reached here next k w → w.path ≡ [] → bit here.live n ≡ 1 → passed_over w.visited.mask (used_in next) n ≡ false → Reached here next (suc k) (put w n)
  next_step : {k : ℕ} {w : WalkState} → Reached here next k w → 0 < length w.path → Reached here next (suc k) (one_step here.triples (used_in next) w)

-- the list has each node once, none that is not listed, and behind each node a parent of it: a path; each listed node was put once, and taken off once unless it is on the list; there are no more steps than two a node
pub record InOrder (here : Graph) (k : ℕ) (w : WalkState) : Type 0 where
  pub once : Distinct w.path
  pub listed : (n : ℕ) → Memᴰ n w.path → Memᴰ n w.visited.listed
  pub linked : (i : ℕ) → suc i < length w.path → Memᴰ (get_or w.path (suc i) 0) (get_parents here.triples (get_or w.path i 0))
  pub steps : k + length w.path ≡ 2 * length w.visited.listed
  pub bound : k ≤ 2 * here.count

-- every state that is reached is in order, and from it on the walk comes to rest; the walks from the nodes that are live here, ascending, list the dying nodes
pub record DyingWalk (here next : Graph) : Type 0 where
  pub in_order : (k : ℕ) (w : WalkState) → Reached here next k w → InOrder here k w
  pub ends : (k : ℕ) (w : WalkState) → Reached here next k w → (walk (2 * here.count) here.triples (used_in next) w).path ≡ []
  pub lists : (over (listed_from (2 * here.count) here next) none_visited (keep here.count 0 (holds here.live))).listed ≡ dying_nodes here next
