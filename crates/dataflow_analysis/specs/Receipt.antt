-- The work list as the code holds it, sets and flags in slices beside the list, and what a receipt leaves in it. Assumes nothing.
use Rattle.std.specs.Prelude.{◌≡◌, Bool, cond, List, [], ◌∷◌, map, ℕ, ◌+◌, ◌≤◌, length, take}
use Rattle.dataflow_domains.specs.Sets.{mask}
use Rattle.dataflow_domains.specs.declared.LiveVarState.{LiveVarState}
use Rattle.dataflow_analysis.specs.declared.Cursor.{Cursor}
use Rattle.dataflow_analysis.specs.declared.Worklist.{Worklist}
use Rattle.dataflow_analysis.specs.Worklist.{State, receive, news, popped}
use Rattle.dataflow_analysis.specs.Lattice.{Lattice, masks}
use Rattle.dataflow_analysis.specs.Queue.{waiting}

-- a flag as the definition has it
abbrev pub flag : Bool → ℕ
flag met = cond met 1 0

-- what the slices, the cursor and the count of removals stand for
unfoldable pub state_of : List LiveVarState → List Bool → List ℕ → Cursor → ℕ → State masks
state_of sets met q c taken = record { sets = map mask sets; met = map flag met; list = waiting q c; taken = taken }

-- the state that a work list stands for: every key taken has moved the head by one
abbrev pub state : Worklist → State masks
state w = state_of w.sets.now w.met.now w.queue.now w.cursor w.cursor.head

-- a state with the values of the first n nodes alone
abbrev pub front : {L : Lattice} → ℕ → State L → State L
front n st = record { sets = take n st.sets; met = st.met; list = st.list; taken = st.taken }

-- the state of n nodes, where there may be more sets than nodes
abbrev pub state_at : ℕ → Worklist → State masks
state_at n w = front n (state w)

-- the keys that wait lie within the queue
abbrev pub ListFits : Worklist → Type 0
ListFits w = w.cursor.head + w.cursor.len ≤ length w.queue.now

-- node p is met for the first time, or m has more than its set
abbrev pub news_at : Worklist → ℕ → ℕ → Bool
news_at w p m = news m (state w) p

-- the slices are the same, of the same lengths
pub record SameSlices (w w₁ : Worklist) : Type 0 where
  pub sets : w₁.sets.ghost_name ≡ w.sets.ghost_name
  pub met : w₁.met.ghost_name ≡ w.met.ghost_name
  pub queue : w₁.queue.ghost_name ≡ w.queue.ghost_name
  pub sets_long : length w₁.sets.now ≡ length w.sets.now
  pub met_long : length w₁.met.now ≡ length w.met.now
  pub queue_long : length w₁.queue.now ≡ length w.queue.now

-- node p received m
pub record Received (w : Worklist) (p m : ℕ) (w₁ : Worklist) : Type 0 where
  pub state_is : state w₁ ≡ receive m (state w) p
  pub same_head : w₁.cursor.head ≡ w.cursor.head
  pub fits : ListFits w → ListFits w₁
  pub same : SameSlices w w₁

-- k was the first to wait, and is off the list
pub record Taken (w : Worklist) (k : ℕ) (w₁ : Worklist) : Type 0 where
  pub first : (state w).list ≡ k ∷ (state w₁).list
  pub state_is : state w₁ ≡ popped (state w) (state w₁).list
  pub next_head : w₁.cursor.head ≡ w.cursor.head + 1
  pub same_end : w₁.cursor.head + w₁.cursor.len ≡ w.cursor.head + w.cursor.len
  pub same : SameSlices w w₁

-- none waits, and nothing changed
pub record Ended (w w₁ : Worklist) : Type 0 where
  pub none : (state w).list ≡ []
  pub state_is : state w₁ ≡ state w
  pub same_head : w₁.cursor.head ≡ w.cursor.head
  pub same_end : w₁.cursor.head + w₁.cursor.len ≡ w.cursor.head + w.cursor.len
  pub same : SameSlices w w₁
