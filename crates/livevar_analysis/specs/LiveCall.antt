-- What the call live promises of the bytes that it leaves and of its count: term 3. Assumes nothing.
use Rattle.std.specs.Prelude.{◌≡◌, List, [], ℕ, ◌*◌, ◌≤◌, ◌<◌, length}
use Rattle.base.specs.Sizes.{pair_bytes, taken_bound}
use Rattle.base.specs.Bytes.{part}
use Rattle.dataflow_domains.specs.Mask.{bit}
use Rattle.sheet.specs.Layout.{locals_of, code_of}
use Rattle.stackless_control_flow_graph.specs.Blocks.{blocks_of, keyed}
use Rattle.livevar_analysis.specs.Live.{Obeys}
use Rattle.livevar_analysis.specs.Analysis.{state_after, info_in}

-- ---- the sets that the bytes list, before and after the instruction at k

abbrev pub before_at : List ℕ → ℕ → ℕ
before_at out k = (info_in (part out (pair_bytes * k) pair_bytes)).before

abbrev pub after_at : List ℕ → ℕ → ℕ
after_at out k = (info_in (part out (pair_bytes * k) pair_bytes)).after

-- ---- term 3, of sheet s and the bytes `out`

pub record LeastLive (s out : List ℕ) : Type 0 where
  -- they obey the live rules at every instruction, reached or not
  pub obeys : Obeys (code_of s) (before_at out) (after_at out)
  -- whatever sets obey them, of any width, hold every local that the bytes list, at each instruction and on each side
  pub before : (b a : ℕ → ℕ) → Obeys (code_of s) b a → (k i : ℕ) → k < length (code_of s) → bit (before_at out k) i ≡ 1 → bit (b k) i ≡ 1
  pub after : (b a : ℕ → ℕ) → Obeys (code_of s) b a → (k i : ℕ) → k < length (code_of s) → bit (after_at out k) i ≡ 1 → bit (a k) i ≡ 1

-- ---- the count, of sheet s: so many blocks are taken from the work list until it is empty

-- B blocks and L locals: 1 + (B + 1) * (L + 1)
abbrev pub bound_of : List ℕ → ℕ
bound_of s = taken_bound (blocks_of (code_of s)) (locals_of s)

pub record TakenUntilEmpty (s : List ℕ) (taken : ℕ) : Type 0 where
  -- the bound does not cut the run: with it as fuel, or with any more, the list is empty in the end
  pub empty : (fuel : ℕ) → bound_of s ≤ fuel → (state_after (code_of s) (keyed (code_of s)) fuel).list ≡ []
  -- and so many were taken
  pub count : (fuel : ℕ) → bound_of s ≤ fuel → (state_after (code_of s) (keyed (code_of s)) fuel).taken ≡ taken
  -- which is within the bound
  pub bound : taken ≤ bound_of s
