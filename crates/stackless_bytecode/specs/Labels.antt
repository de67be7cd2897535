-- What a label is in some code: named, unnamed or undefined. Assumes nothing.
use Rattle.std.specs.Prelude.{ℕ, Bool, cond, not, List, eqb, length, None, Some}
use Rattle.base.specs.Lists.{gather, has, first_bad}
use Rattle.stackless_bytecode.specs.declared.Bytecode.{Bytecode}
use Rattle.stackless_bytecode.specs.declared.Lookup.{Lookup}
use Rattle.stackless_bytecode.specs.declared.Lookup.TheVariants.{Named, Unnamed, Undefined}
use Rattle.stackless_bytecode.specs.Kinds.{at, branch_dests, label_of}

-- what label l is: at the offset of the first Label with its number, named where some instruction, at any offset, names it
unfoldable pub lookup : List Bytecode → ℕ → Lookup
lookup code l =
    elim (first_bad (length code) 0 (λ k. not (has l (label_of (at code k))))) [
      | None ↦ Undefined
      | Some o ↦ cond (has l (gather branch_dests code)) (Named o) (Unnamed o)
    ]

-- the number of each way
abbrev pub way_of : Lookup → ℕ
way_of (Named o) = 1
way_of (Unnamed o) = 2
way_of Undefined = 3

-- and its offset
abbrev pub offset_of : Lookup → ℕ
offset_of (Named o) = o
offset_of (Unnamed o) = o
offset_of Undefined = 0

-- some instruction names it
abbrev pub is_named : Lookup → Bool
is_named x = eqb (way_of x) 1

-- some Label has it
abbrev pub is_defined : Lookup → Bool
is_defined x = not (eqb (way_of x) 3)

-- the offset of label l, where it is defined
abbrev pub label_offset : List Bytecode → ℕ → ℕ
label_offset code l = offset_of (lookup code l)
