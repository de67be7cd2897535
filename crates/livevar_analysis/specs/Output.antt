-- What state_per_instruction reads, the keys of the offsets and the sets of the keys; and the sets of each instruction. Assumes nothing.
use Rattle.std.specs.Prelude.{◌≡◌, Bool, cond, not, ◌||◌, List, ◌++◌, ℕ, ◌+◌, ◌≤◌, ◌<◌, eqb, get_or, length, map, take}
use Rattle.base.specs.Sizes.{set_bytes}
use Rattle.base.specs.Lists.{tab}
use Rattle.base.specs.Bytes.{bytes_of}
use Rattle.dataflow_domains.specs.Sets.{mask}
use Rattle.dataflow_domains.specs.declared.LiveVarState.{LiveVarState}
use Rattle.stackless_bytecode.specs.declared.Bytecode.{Bytecode}
use Rattle.stackless_bytecode.specs.Sound.{Sound}
use Rattle.stackless_control_flow_graph.specs.Blocks.{lower_of, keyed, key_of}
use Rattle.stackless_control_flow_graph.specs.Graph.{OffsetKeys}
use Rattle.livevar_analysis.specs.Analysis.{LiveVarInfo, info_of}

-- ---- the sets of each instruction

-- where ms are the sets after the blocks, by key
unfoldable pub info_by : List Bytecode → List ℕ → ℕ → LiveVarInfo
info_by code ms k = info_of code k (get_or ms (key_of (keyed code) (lower_of code k)) 0)

unfoldable pub infos_by : List Bytecode → List ℕ → List LiveVarInfo
infos_by code ms = tab (length code) 0 (info_by code ms)

-- the bytes of one instruction's sets
abbrev pub side_bytes : ℕ → ℕ → List ℕ
side_bytes before after = bytes_of set_bytes before ++ bytes_of set_bytes after

-- ---- what is read

-- k is the last of n, or the next offset has another key
abbrev pub is_end : List ℕ → ℕ → ℕ → Bool
is_end keys n k = eqb (k + 1) n || not (eqb (get_or keys (k + 1) 0) (get_or keys k 0))

-- the set after instruction k: at a block's end the set of its key, else m
unfoldable pub after_by : List ℕ → List LiveVarState → ℕ → ℕ → ℕ → ℕ
after_by keys sets n k m = cond (is_end keys n k) (get_or (map mask sets) (get_or keys k 0) 0) m

-- n instructions have keys, and every key has a set
pub record KeySets (n : ℕ) (keys : List ℕ) (sets : List LiveVarState) : Type 0 where
  pub keys_fit : n ≤ length keys
  pub sets_fit : (k : ℕ) → k < n → get_or keys k 0 < length sets

-- the keys are those of the code, and the sets are ms
pub record Blocked (code : List Bytecode) (ms keys : List ℕ) (sets : List LiveVarState) : Type 0 where
  pub sound : Sound code
  pub keys_are : OffsetKeys code keys
  pub keys_in : (k : ℕ) → k < length code → get_or keys k 0 < length ms
  pub sets_are : take (length ms) (map mask sets) ≡ ms
