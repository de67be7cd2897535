-- What the flow table says of an accepted sheet's code, in the numbers that a caller reads: the blocks cut the code, their keys are 2 to B + 1, and a row has two successor keys
-- at most. Assumes nothing.
use Rattle.std.specs.Prelude.{◌≡◌, true, false, ℕ, ◌+◌, ◌*◌, ◌≤◌, ◌<◌, get_or, length, List, []}
use mathlib.Core.List.{Memᴰ}
use Rattle.base.specs.Sizes.{row_numbers}
use Rattle.stackless_bytecode.specs.declared.Bytecode.{Bytecode}
use Rattle.stackless_bytecode.specs.Kinds.{at, is_exit, is_branch, branch_dests}
use Rattle.stackless_bytecode.specs.Labels.{label_offset}
use Rattle.stackless_bytecode.specs.Successors.{successors}
use Rattle.stackless_control_flow_graph.specs.Blocks.{starts}

-- the first three numbers of row b: the lower, the upper and the key of its block
abbrev pub row_lower : List ℕ → ℕ → ℕ
row_lower table b = get_or table (row_numbers * b) 0

abbrev pub row_upper : List ℕ → ℕ → ℕ
row_upper table b = get_or table (row_numbers * b + 1) 0

abbrev pub row_key : List ℕ → ℕ → ℕ
row_key table b = get_or table (row_numbers * b + 2) 0

pub record FlowMeaning (code : List Bytecode) (blocks : ℕ) (table : List ℕ) : Type 0 where
  -- a block is a part of the code
  pub inside : (b : ℕ) → b < blocks → (row_lower table b ≤ row_upper table b) × (row_upper table b < length code)
  -- every instruction is in one
  pub cover : (k : ℕ) → k < length code → (b : ℕ) × (b < blocks) × (row_lower table b ≤ k) × (k ≤ row_upper table b)
  -- and in no other
  pub apart : (b d k : ℕ) → b < blocks → d < blocks → row_lower table b ≤ k → k ≤ row_upper table b → row_lower table d ≤ k → k ≤ row_upper table d → b ≡ d
  -- only its last instruction is a Branch, a Jump, an exit or a flagged Call
  pub quiet : (b k : ℕ) → b < blocks → row_lower table b ≤ k → k < row_upper table b → is_branch (at code k) ≡ false
  -- every Label that is named starts a block
  pub named : (k l : ℕ) → k < length code → Memᴰ l (branch_dests (at code k)) → (b : ℕ) × (b < blocks) × (row_lower table b ≡ label_offset code l)
  -- and none starts without a reason
  pub reason : (b : ℕ) → b < blocks → starts code (row_lower table b) ≡ true
  -- wherever a block goes on, one starts: at two offsets at most, so that the sixth number of its row is 0; an exit goes nowhere
  pub goes : (b o : ℕ) → b < blocks → Memᴰ o (successors code (row_upper table b)) → (d : ℕ) × (d < blocks) × (row_lower table d ≡ o)
  pub two : (b : ℕ) → b < blocks → (length (successors code (row_upper table b)) ≤ 2) × (get_or table (row_numbers * b + 5) 0 ≡ 0)
  pub exits : (b : ℕ) → b < blocks → is_exit (at code (row_upper table b)) ≡ true → successors code (row_upper table b) ≡ []
  -- the keys are 2 to B + 1, each of one block
  pub keys : (b : ℕ) → b < blocks → (2 ≤ row_key table b) × (row_key table b ≤ blocks + 1)
  pub keys_once : (b d : ℕ) → b < blocks → d < blocks → row_key table b ≡ row_key table d → b ≡ d
  pub keys_all : (j : ℕ) → 2 ≤ j → j ≤ blocks + 1 → (b : ℕ) × (b < blocks) × (row_key table b ≡ j)
