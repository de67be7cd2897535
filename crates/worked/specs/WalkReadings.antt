-- The walk of dying nodes on M7 and on a graph whose parents cross, state by state, by computation. Assumes nothing.
use Rattle.std.specs.Prelude.{◌≡◌, refl, ℕ, List, [], ◌∷◌}
use Rattle.base.specs.Lists.{tab}
use Rattle.base.specs.Refusals.{Done}
use Rattle.dataflow_domains.specs.Mask.{set_of}
use Rattle.borrow_analysis.specs.Graph.{GraphInput, graph_of}
use Rattle.borrow_analysis.specs.Borrows.{none_visited, dying_reply}
use Rattle.ancestors.specs.Ancestors.{WalkState, walk, start_at, used_in}
use Rattle.worked.specs.Samples.{chain}
use Rattle.worked.specs.Opened.{opened}

-- four nodes, triples 1,0 2,0 2,1 3,1, with this live mask: 2 is a parent of 0 and of 1
unfoldable pub crossing : ℕ → GraphInput
crossing live = record { count = 4; live = live; numbers = 1 ∷ 0 ∷ 0 ∷ 2 ∷ 0 ∷ 0 ∷ 2 ∷ 1 ∷ 0 ∷ 3 ∷ 1 ∷ 0 ∷ [] }

-- the list, and the nodes listed
unfoldable pub state : List ℕ → List ℕ → WalkState
state path listed = record { path = path; visited = record { mask = set_of listed; listed = listed } }

-- the state after k steps from node n on, the first of all
unfoldable pub state_after : GraphInput → GraphInput → ℕ → ℕ → WalkState
state_after here next n k = walk k (graph_of here).triples (used_in (graph_of next)) (start_at (used_in (graph_of next)) none_visited n)

pub record WalkReadings : Type 0 where
  -- M7 from 2 on: up to 0, and back
  pub m7_states : tab 6 0 (state_after (chain 4) (chain 0) 2)
      ≡ state (2 ∷ []) (2 ∷ [])
      ∷ state (2 ∷ 1 ∷ []) (2 ∷ 1 ∷ [])
      ∷ state (2 ∷ 1 ∷ 0 ∷ []) (2 ∷ 1 ∷ 0 ∷ [])
      ∷ state (2 ∷ 1 ∷ []) (2 ∷ 1 ∷ 0 ∷ [])
      ∷ state (2 ∷ []) (2 ∷ 1 ∷ 0 ∷ [])
      ∷ state [] (2 ∷ 1 ∷ 0 ∷ [])
      ∷ []
  -- from 0 on: 1 finds 2 before 0 does, so that 0 finds none when the walk is back
  pub crossing_states : tab 8 0 (state_after (crossing 7) (crossing 0) 0)
      ≡ state (0 ∷ []) (0 ∷ [])
      ∷ state (0 ∷ 1 ∷ []) (0 ∷ 1 ∷ [])
      ∷ state (0 ∷ 1 ∷ 2 ∷ []) (0 ∷ 1 ∷ 2 ∷ [])
      ∷ state (0 ∷ 1 ∷ []) (0 ∷ 1 ∷ 2 ∷ [])
      ∷ state (0 ∷ 1 ∷ 3 ∷ []) (0 ∷ 1 ∷ 2 ∷ 3 ∷ [])
      ∷ state (0 ∷ 1 ∷ []) (0 ∷ 1 ∷ 2 ∷ 3 ∷ [])
      ∷ state (0 ∷ []) (0 ∷ 1 ∷ 2 ∷ 3 ∷ [])
      ∷ state [] (0 ∷ 1 ∷ 2 ∷ 3 ∷ [])
      ∷ []
  -- 1 and 2, which are live too, are listed by then
  pub crossing_dying : dying_reply (crossing 7) (crossing 0) 4 ≡ Done 4 (0 ∷ 1 ∷ 2 ∷ 3 ∷ [])

pub walk_readings : WalkReadings
unfolding crossing state state_after opened
walk_readings = record {
  m7_states = refl;
  crossing_states = refl;
  crossing_dying = refl;
}
