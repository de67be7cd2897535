-- What the engine asks of the slices that it is lent, and what it leaves in them. Assumes nothing.
use Rattle.std.specs.Prelude.{◌≡◌, Bool, true, false, ℕ, ◌+◌, ◌-◌, ◌≤◌, ◌<◌, get_or, length, map, take, List}
use mathlib.Core.List.{Memᴰ}
use Rattle.base.specs.Sizes.{max_locals, max_instructions, max_number, max_taken}
use Rattle.base.specs.Lists.{over}
use Rattle.dataflow_domains.specs.Sets.{mask}
use Rattle.dataflow_domains.specs.declared.LiveVarState.{LiveVarState}
use Rattle.dataflow_analysis.specs.declared.Worklist.{Worklist}
use Rattle.dataflow_analysis.specs.Worklist.{begin, news, receive}
use Rattle.dataflow_analysis.specs.Receipt.{state, state_at, ListFits, SameSlices}
use Rattle.stackless_bytecode.specs.declared.Bytecode.{Bytecode}
use Rattle.stackless_bytecode.specs.Kinds.{srcs_of}
use Rattle.stackless_bytecode.specs.Sound.{Sound}
use Rattle.stackless_control_flow_graph.specs.Blocks.{keyed}
use Rattle.stackless_control_flow_graph.specs.Graph.{Bounds, Edges}
use Rattle.stackless_control_flow_graph.specs.Backward.{nexts_of, leads_to}
use Rattle.livevar_analysis.specs.Analysis.{out_of, analyze_function}
use Rattle.livevar_analysis.specs.declared.tables.Tables.{Tables}
use Rattle.livevar_analysis.specs.Rules.{Ruled}

-- ---- the code, and its tables

-- what an accepted sheet gives
pub record Analyzable (code : List Bytecode) (locals : ℕ) : Type 0 where
  pub sound : Sound code
  pub few : length code ≤ max_instructions
  pub narrow : locals ≤ max_locals
  pub sources : (r : Bytecode) → Memᴰ r code → (x : ℕ) → Memᴰ x (srcs_of r) → x < locals

-- the rules, edges and bounds are those of the code
pub record RunTables (code : List Bytecode) (t : Tables) : Type 0 where
  pub ruled : Ruled code t.rules.now
  pub room : length code ≤ length t.rules.now
  pub bounds : Bounds code t.lower_of_key.now t.upper_of_key.now
  pub leads_are : Edges code t.first_edge.now t.edges.now

-- ---- handing on

-- the nodes ps can receive m one after the other: each has a set and a flag, and where there is news the queue has a place
pub record CanHand (w : Worklist) (ps : List ℕ) (m : ℕ) : Type 0 where
  pub list_fits : ListFits w
  pub below_sets : (i : ℕ) → i < length ps → get_or ps i 0 < length w.sets.now
  pub below : (i : ℕ) → i < length ps → get_or ps i 0 < length w.met.now
  pub room : (i : ℕ) → i < length ps → news m (over (receive m) (state w) (take i ps)) (get_or ps i 0) ≡ true
      → (over (receive m) (state w) (take i ps)).taken + length (over (receive m) (state w) (take i ps)).list < length w.queue.now

-- they have received it
pub record HandedOn (w : Worklist) (ps : List ℕ) (m : ℕ) (w₁ : Worklist) : Type 0 where
  pub state_is : state w₁ ≡ over (receive m) (state w) ps
  pub same_head : w₁.cursor.head ≡ w.cursor.head
  pub list_fits : ListFits w₁
  pub same : SameSlices w w₁

-- they have received it as far as the first n nodes go: nothing is said of sets behind theirs
pub record HandedFront (n : ℕ) (w : Worklist) (ps : List ℕ) (m : ℕ) (w₁ : Worklist) : Type 0 where
  pub state_is : state_at n w₁ ≡ over (receive m) (state_at n w) ps
  pub same_head : w₁.cursor.head ≡ w.cursor.head
  pub list_fits : ListFits w₁

-- ---- one key

-- the slices reach as far as the set of key k and, of a block, its bounds and its rules
pub record CanOut (t : Tables) (sets : List LiveVarState) (k : ℕ) : Type 0 where
  pub own : k < length sets
  pub low : k < 2 + length t.lower_of_key.now
  pub up : k < 2 + length t.upper_of_key.now
  pub rule_room : 2 ≤ k → get_or t.upper_of_key.now (k - 2) 0 < length t.rules.now

-- what k hands on, and to whom
abbrev pub given : List Bytecode → List LiveVarState → ℕ → ℕ
given code sets k = out_of code (keyed code) k (get_or (map mask sets) k 0)

abbrev pub leads : List Bytecode → ℕ → List ℕ
leads code k = leads_to (nexts_of code (keyed code)) k

-- the tables have the edges of some code, and those that key k leads to can receive m
pub record CanHandKey (t : Tables) (w : Worklist) (k m : ℕ) : Type 0 where
  pub code : List Bytecode
  pub leads_are : Edges code t.first_edge.now t.edges.now
  pub nodes : length w.met.now ≡ 2 + length (keyed code)
  pub few : length w.met.now ≤ max_number + 1
  pub inside : k < length w.met.now
  pub hands : CanHand w (leads code k) m

-- ---- the run

-- the tables are those of the code, and the list has the state in which key 1 waits; there may be more sets than nodes
pub record Begun (code : List Bytecode) (locals : ℕ) (t : Tables) (w : Worklist) : Type 0 where
  pub analyzable : Analyzable code locals
  pub tables : RunTables code t
  pub nodes : length w.met.now ≡ 2 + length (keyed code)
  pub sets_fit : length w.met.now ≤ length w.sets.now
  pub list_long : length w.queue.now ≡ max_taken
  pub list_fits : ListFits w
  pub state_is : state_at (2 + length (keyed code)) w ≡ begin (2 + length (keyed code)) 1

-- of some code
pub record CanRun (t : Tables) (w : Worklist) : Type 0 where
  pub code : List Bytecode
  pub locals : ℕ
  pub begun : Begun code locals t w

-- the tables are those of the code; a set and a flag for each node, all blank; and a list as long as the taken bound
pub record RunInput (code : List Bytecode) (locals : ℕ) (t : Tables) (sets : List LiveVarState) (met : List Bool) (q : List ℕ) : Type 0 where
  pub analyzable : Analyzable code locals
  pub tables : RunTables code t
  pub nodes : length met ≡ 2 + length (keyed code)
  pub sets_fit : length met ≤ length sets
  pub list_long : length q ≡ max_taken
  pub sets_blank : (k : ℕ) → get_or (map mask sets) k 0 ≡ 0
  pub met_blank : (k : ℕ) → get_or met k false ≡ false

-- of some code
pub record CanStart (t : Tables) (sets : List LiveVarState) (met : List Bool) (q : List ℕ) : Type 0 where
  pub code : List Bytecode
  pub locals : ℕ
  pub input : RunInput code locals t sets met q

-- the tables of the code's m blocks, and a set for each key, all empty
pub record SolveInput (code : List Bytecode) (locals : ℕ) (t : Tables) (m : ℕ) (sets : List LiveVarState) : Type 0 where
  pub analyzable : Analyzable code locals
  pub tables : RunTables code t
  pub count : m ≡ length (keyed code)
  pub sets_fit : m + 2 ≤ length sets
  pub sets_blank : (k : ℕ) → get_or (map mask sets) k 0 ≡ 0

-- of some code
pub record CanSolve (t : Tables) (m : ℕ) (sets : List LiveVarState) : Type 0 where
  pub code : List Bytecode
  pub locals : ℕ
  pub input : SolveInput code locals t m sets

-- r keys were taken, and the sets are those of the definition
pub record Solved (code : List Bytecode) (locals r : ℕ) (sets : List LiveVarState) : Type 0 where
  pub taken : r ≡ (analyze_function code (keyed code) locals).taken
  pub final : take (2 + length (keyed code)) (map mask sets) ≡ (analyze_function code (keyed code) locals).sets
