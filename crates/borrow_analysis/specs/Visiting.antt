-- What the contracts, the loops and the laws of the visits of dying nodes say. Assumes nothing.
use Rattle.std.specs.Prelude.{◌≡◌, ◌⊎◌, true, ℕ, ◌^◌, ◌<◌, length, drop, List, ◌++◌}
use mathlib.Core.List.{Memᴰ}
use Rattle.std.specs.Int.Count.{ones}
use Rattle.base.specs.Lists.{Distinct}
use Rattle.dataflow_domains.specs.Mask.{bit, holds, Sub}
use Rattle.borrow_analysis.specs.declared.triples.Triple.{Triple}
use Rattle.borrow_analysis.specs.Borrows.{VisitedNodes}

-- ---- visits in lent bytes

-- the visits came to st: the mask m, k nodes listed, and what was lent holds them and then what it held
pub record VisitsWritten (st : VisitedNodes) (m k : ℕ) (old new : List ℕ) : Type 0 where
  pub set : m ≡ st.mask
  pub count : k ≡ length st.listed
  pub wrote : new ≡ st.listed ++ drop (length st.listed) old

-- ---- visits of the definition

-- as many are listed as are visited, each below c
pub record ListedBelow (c : ℕ) (st : VisitedNodes) : Type 0 where
  pub each : length st.listed ≡ ones st.mask
  pub small : st.mask < 2 ^ c

-- what is visited only grows
pub record VisitsGrow (c : ℕ) (old new : VisitedNodes) : Type 0 where
  pub fair : ListedBelow c new
  pub has : Sub old.mask new.mask

-- the list has the nodes of the mask, each once
pub record ListedOnce (st : VisitedNodes) : Type 0 where
  pub distinct : Distinct st.listed
  pub seen : (x : ℕ) → Memᴰ x st.listed → bit st.mask x ≡ 1
  pub listed : (x : ℕ) → bit st.mask x ≡ 1 → Memᴰ x st.listed

-- P holds of each node listed
pub record AllListed (P : ℕ → Type 0) (st : VisitedNodes) : Type 0 where
  pub each : (x : ℕ) → Memᴰ x st.listed → P x

-- n is visited or in `used`
pub record Settled (used : ℕ) (st : VisitedNodes) (n : ℕ) : Type 0 where
  pub either : (bit st.mask n ≡ 1) ⊎ (holds used n ≡ true)

-- what is visited anew has all its parents settled
pub record ParentsSettled (ts : List Triple) (used : ℕ) (old new : VisitedNodes) : Type 0 where
  pub each : (x : ℕ) → bit new.mask x ≡ 1 → (bit old.mask x ≡ 1) ⊎ ((t : Triple) → Memᴰ t ts → t.child ≡ x → Settled used new t.parent)

-- each node of xs is settled, and so are the parents of all that is visited on the way
pub record VisitedAll (ts : List Triple) (used c : ℕ) (old new : VisitedNodes) (xs : List ℕ) : Type 0 where
  pub grows : VisitsGrow c old new
  pub closed : ParentsSettled ts used old new
  pub settled : (x : ℕ) → Memᴰ x xs → Settled used new x
