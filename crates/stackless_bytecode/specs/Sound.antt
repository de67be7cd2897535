-- What the flow needs of code, as checks 3, 18, 7 and 8 leave it. Assumes nothing.
use Rattle.std.specs.Prelude.{◌≡◌, true, false, ℕ, ◌-◌, ◌<◌, length, List}
use mathlib.Core.List.{Memᴰ}
use Rattle.stackless_bytecode.specs.declared.Bytecode.{Bytecode}
use Rattle.stackless_bytecode.specs.Kinds.{at, stop_ok, falls_through, branch_dests, label_of}
use Rattle.stackless_bytecode.specs.Labels.{label_offset}

-- the offset of label l is one of the code, and its Label stands there
pub record Defined (code : List Bytecode) (l : ℕ) : Type 0 where
  pub inside : label_offset code l < length code
  pub label : Memᴰ l (label_of (at code (label_offset code l)))

pub record Sound (code : List Bytecode) : Type 0 where
  -- there is an instruction
  pub some : 0 < length code
  -- no Stop has an abort action
  pub stops : (k : ℕ) → k < length code → stop_ok (at code k) ≡ true
  -- every label that is named is defined
  pub named : (k l : ℕ) → k < length code → Memᴰ l (branch_dests (at code k)) → Defined code l
  -- the last instruction does not fall through
  pub closed : falls_through (at code (length code - 1)) ≡ false
