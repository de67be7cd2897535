-- Why a local is listed: a way to a use on which nothing takes it out. Assumes nothing.
use Rattle.std.specs.Prelude.{◌≡◌, ℕ, ◌^◌, ◌<◌, length, List}
use mathlib.Core.List.{Memᴰ}
use Rattle.dataflow_domains.specs.Mask.{bit}
use Rattle.stackless_bytecode.specs.declared.Bytecode.{Bytecode}
use Rattle.stackless_bytecode.specs.Kinds.{at}
use Rattle.stackless_bytecode.specs.Successors.{successors}
use Rattle.livevar_analysis.specs.Live.{execute}

-- local i is needed before offset k
pub data Needed (code : List Bytecode) : ℕ → ℕ → Type 0 where
  -- the instruction at k uses i itself: i is live before it even if nothing is live behind it
  used : {k i : ℕ} → k < length code → bit (execute (at code k) 0) i ≡ 1 → Needed code k i
  -- j is needed before a successor of k, and the instruction at k hands j on as i
  handed : {k i : ℕ} (o j : ℕ) → k < length code → Memᴰ o (successors code k) → Needed code o j → bit (execute (at code k) (2 ^ j)) i ≡ 1 → Needed code k i
