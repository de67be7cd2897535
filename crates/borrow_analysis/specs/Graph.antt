-- Borrow graphs as they are handed over, and checks 12 to 14. Assumes nothing.
use Rattle.std.specs.Prelude.{ℕ, ◌+◌, ◌-◌, ◌*◌, ◌/◌, ◌%◌, ◌^◌, Bool, cond, ◌||◌, ◌&&◌, List, eqb, leb, ltb, get_or, length, Option, Some}
use Rattle.base.specs.declared.Refusal.TheVariants.{Nodes, Triples, AskedNode}
use Rattle.base.specs.Sizes.{max_locals, max_triples}
use Rattle.base.specs.Lists.{tab, first_bad}
use Rattle.base.specs.Refusals.{Verdict, check, ◌then◌, check_whole}
use Rattle.borrow_analysis.specs.declared.graph.InputGraph.{InputGraph}
use Rattle.borrow_analysis.specs.declared.triples.Triple.{Triple}

-- ---- graphs

-- a node count, a live mask and triples: a parent, a child, and the number of the edge between them
pub record Graph : Type 0 where
  pub count : ℕ
  pub live : ℕ
  pub triples : List Triple

-- a graph as it is handed over: three numbers for each triple
pub record GraphInput : Type 0 where
  pub count : ℕ
  pub live : ℕ
  pub numbers : List ℕ

abbrev pub graph_input : ℕ → ℕ → List ℕ → GraphInput
graph_input count live numbers = record { count = count; live = live; numbers = numbers }

abbrev pub input_of : InputGraph → GraphInput
input_of g = graph_input g.nodes g.live g.triples.now

abbrev pub triple_at : List ℕ → ℕ → Triple
triple_at xs i = record { parent = get_or xs (3 * i) 0; child = get_or xs (3 * i + 1) 0; edge = get_or xs (3 * i + 2) 0 }

abbrev pub triples_of : List ℕ → List Triple
triples_of xs = tab (length xs / 3) 0 (triple_at xs)

unfoldable pub graph_of : GraphInput → Graph
graph_of g = record { count = g.count; live = g.live; triples = triples_of g.numbers }

-- ---- 12: nodes

-- at most 64 nodes, and no live bit at or above the count
unfoldable pub nodes_ok : ℕ → ℕ → Bool
nodes_ok count live = leb count max_locals && ltb live (2 ^ count)

-- ---- 13: triples

-- the place in the order of triples, whose numbers have 32 bits
unfoldable pub rank : Triple → ℕ
rank t = (t.parent * 2 ^ 32 + t.child) * 2 ^ 32 + t.edge

-- both nodes are below the count, and the triple is above the one before it
unfoldable pub triple_ok : ℕ → List ℕ → ℕ → Bool
triple_ok count xs i =
    let t = triple_at xs i in
    ltb t.parent count && ltb t.child count && (eqb i 0 || ltb (rank (triple_at xs (i - 1))) (rank t))

-- the place of a wrong length
abbrev pub length_place : ℕ
length_place = 300

-- that place where the length is wrong, else the first bad triple
unfoldable pub triples_bad : ℕ → List ℕ → Option ℕ
triples_bad count xs =
    let n = length xs in
    cond (eqb (n % 3) 0 && leb (n / 3) max_triples) (first_bad (n / 3) 0 (triple_ok count xs)) (Some length_place)

-- ---- the checks of a call

-- 12, 13, and then 14: the asked node is below the count
unfoldable pub check_asked : GraphInput → ℕ → Verdict
check_asked g node =
    check_whole (Nodes 0) (nodes_ok g.count g.live)
    then check Triples (triples_bad g.count g.numbers)
    then check_whole AskedNode (ltb node g.count)

-- what is added to a place of the second graph, in check 12 and in check 13
abbrev pub next_nodes : ℕ
next_nodes = 1

abbrev pub next_triples : ℕ
next_triples = 1000

-- 12 of both graphs, then 13 of both
unfoldable pub check_graphs : GraphInput → GraphInput → Verdict
check_graphs here next =
    check_whole (Nodes 0) (nodes_ok here.count here.live)
    then check_whole (Nodes next_nodes) (nodes_ok next.count next.live)
    then check Triples (triples_bad here.count here.numbers)
    then check (λ p. Triples (next_triples + p)) (triples_bad next.count next.numbers)
