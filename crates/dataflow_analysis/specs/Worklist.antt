-- The first-in work list over any graph and any values that are joined: a node joins it when first met and each time its value grows. Assumes nothing.
use Rattle.std.specs.Prelude.{◌≡◌, ℕ, zero, suc, Bool, cond, not, ◌||◌, List, [], ◌∷◌, ◌++◌, eqb, get_or, set, replicate}
use Rattle.base.specs.Lists.{over}
use Rattle.dataflow_analysis.specs.Lattice.{Lattice}

-- the value of each node, whether it was met (1) or not (0), the list, and how many nodes were removed from it
pub record State (L : Lattice) : Type 0 where
  pub sets : List L.Value
  pub met : List ℕ
  pub list : List ℕ
  pub taken : ℕ

module _ {L : Lattice} where
  -- the value of node k
  abbrev pub set_at : State L → ℕ → L.Value
  set_at st k = get_or st.sets k L.none

  -- node k was met
  abbrev pub Met : State L → ℕ → Type 0
  Met st k = get_or st.met k 0 ≡ 1

  -- ---- one node receives the value v

  -- it is met for the first time, or v has more than its value
  unfoldable pub news : L.Value → State L → ℕ → Bool
  news v st p = eqb (get_or st.met p 0) 0 || not (L.same (L.join (set_at st p) v) (set_at st p))

  -- its value grows, it is met, and it waits at the end of the list
  unfoldable pub joined : L.Value → State L → ℕ → State L
  joined v st p = record {
    sets = set st.sets p (L.join (set_at st p) v);
    met = set st.met p 1;
    list = st.list ++ (p ∷ []);
    taken = st.taken;
  }

  -- where there is news, it joins the list
  unfoldable pub receive : L.Value → State L → ℕ → State L
  receive v st p = cond (news v st p) (joined v st p) st

  -- ---- the run

  -- n nodes with least values; `start` is met, and on the list
  unfoldable pub begin : ℕ → ℕ → State L
  begin n start = record {
    sets = replicate n L.none;
    met = set (replicate n 0) start 1;
    list = start ∷ [];
    taken = 0;
  }

  -- the first node is off the list, and `ks` is left
  unfoldable pub popped : State L → List ℕ → State L
  popped st ks = record { sets = st.sets; met = st.met; list = ks; taken = suc st.taken }

  -- `leads k` are the nodes that k leads to, and `out k v` is the value that k hands on when its own is v
  module _ (leads : ℕ → List ℕ) (out : ℕ → L.Value → L.Value) where
    -- the first node k of the list is removed, and what it hands on is received by those that it leads to
    unfoldable pub step : State L → ℕ → List ℕ → State L
    step st k ks = over (receive (out k (set_at st k))) (popped st ks) (leads k)

    -- until the list is empty, `fuel` removals at most
    unfoldable pub run : ℕ → State L → State L
    run zero st = st
    run (suc fuel) st = elim st.list [ [] ↦ st | k ∷ ks ↦ run fuel (step st k ks) ]
