-- The two searches of the call label: for the Label with a number, and for an instruction that names it. Assumes nothing.
use Rattle.std.specs.Prelude.{not, ℕ, Option, length, List}
use Rattle.base.specs.Lists.{has, first_bad}
use Rattle.stackless_bytecode.specs.declared.Bytecode.{Bytecode}
use Rattle.stackless_bytecode.specs.Kinds.{at, branch_dests, label_of}

-- the first Label with number l
unfoldable pub first_label : List Bytecode → ℕ → Option ℕ
first_label code l = first_bad (length code) 0 (λ k. not (has l (label_of (at code k))))

-- the first instruction that names label l
unfoldable pub first_name : List Bytecode → ℕ → Option ℕ
first_name code l = first_bad (length code) 0 (λ k. not (has l (branch_dests (at code k))))
