-- In use, conditional, dying, and the replies of their calls. Assumes nothing.
use Rattle.std.specs.Prelude.{ℕ, zero, suc, ◌^◌, Bool, true, false, cond, ◌||◌, List, [], ◌∷◌, ◌++◌, eqb, ltb, length}
use Rattle.base.specs.Lists.{keep, over}
use Rattle.base.specs.Refusals.{◌then◌, lends, Reply, Done, reply}
use Rattle.dataflow_domains.specs.Mask.{holds, union}
use Rattle.borrow_analysis.specs.declared.triples.Triple.{Triple}
use Rattle.borrow_analysis.specs.Graph.{Graph, GraphInput, graph_of, check_asked, check_graphs}

-- ---- the triples that lead to a node

-- the parents of a node, ascending, one for each triple
unfoldable pub get_parents : List Triple → ℕ → List ℕ
get_parents [] n = []
get_parents (t ∷ ts) n = cond (eqb t.child n) (t.parent ∷ get_parents ts n) (get_parents ts n)

-- how many there are
unfoldable pub incoming : List Triple → ℕ → ℕ
incoming [] n = 0
incoming (t ∷ ts) n = cond (eqb t.child n) (suc (incoming ts n)) (incoming ts n)

-- ---- up from a set of nodes

-- m and the parents, over one triple, of the nodes in m
unfoldable pub parents_in : List Triple → ℕ → ℕ
parents_in [] m = m
parents_in (t ∷ ts) m = union (cond (holds m t.child) (2 ^ t.parent) 0) (parents_in ts m)

-- n times over
unfoldable pub upward : ℕ → List Triple → ℕ → ℕ
upward zero ts m = m
upward (suc n) ts m = upward n ts (parents_in ts m)

-- the nodes that are in m, or have a descendant in m
unfoldable pub above : Graph → ℕ → ℕ
above g m = upward g.count g.triples m

-- ---- in use, conditional

-- the node or a descendant is live
unfoldable pub is_in_use : Graph → ℕ → Bool
is_in_use g n = holds (above g g.live) n

-- those of the n nodes from k on that have more than one incoming triple
unfoldable pub many_in : ℕ → ℕ → List Triple → ℕ
many_in zero k ts = 0
many_in (suc n) k ts = union (cond (ltb 1 (incoming ts k)) (2 ^ k) 0) (many_in n (suc k) ts)

-- the node or a descendant has more than one incoming triple
unfoldable pub is_conditional : Graph → ℕ → Bool
is_conditional g n = holds (above g (many_in g.count 0 g.triples)) n

-- ---- dying

-- the nodes visited, as a mask and in the order of the visits
pub record VisitedNodes : Type 0 where
  pub mask : ℕ
  pub listed : List ℕ

abbrev pub none_visited : VisitedNodes
none_visited = record { mask = 0; listed = [] }

-- n is visited and listed
abbrev pub list_node : VisitedNodes → ℕ → VisitedNodes
list_node st n = record { mask = union (2 ^ n) st.mask; listed = st.listed ++ (n ∷ []) }

-- n and then, depth first, its parents, where not visited and not in `used`; at most d deep
unfoldable pub collect_ancestors : ℕ → List Triple → ℕ → VisitedNodes → ℕ → VisitedNodes
collect_ancestors zero ts used st n = st
collect_ancestors (suc d) ts used st n =
    elim (holds st.mask n || holds used n) [
      | true ↦ st
      | false ↦ over (collect_ancestors d ts used) (list_node st n) (get_parents ts n)
    ]

-- the nodes that die from this graph to the next, in the order of the visits: from each node that is live here, ascending, where not in use there; at most d deep
unfoldable pub dying_nodes_at : ℕ → Graph → Graph → List ℕ
dying_nodes_at d here next =
    (over (collect_ancestors d here.triples (above next next.live)) none_visited
    (keep here.count 0 (holds here.live))
    ).listed

-- as deep as there are nodes; any greater depth gives the same list (DyingList, `order`)
unfoldable pub dying_nodes : Graph → Graph → List ℕ
dying_nodes here next = dying_nodes_at here.count here next

-- ---- the calls: yes is 1, no is 0; the count of dying nodes and a byte for each, where so many bytes are lent

unfoldable pub in_use_reply : GraphInput → ℕ → Reply
in_use_reply g node = reply (check_asked g node) (Done (cond (is_in_use (graph_of g) node) 1 0) [])

unfoldable pub conditional_reply : GraphInput → ℕ → Reply
conditional_reply g node = reply (check_asked g node) (Done (cond (is_conditional (graph_of g) node) 1 0) [])

unfoldable pub dying_reply : GraphInput → GraphInput → ℕ → Reply
dying_reply here next lent =
    let listed = dying_nodes (graph_of here) (graph_of next) in
    reply (check_graphs here next then lends lent here.count) (Done (length listed) listed)
