-- The numbers of the calls. Assumes nothing.
use Rattle.std.specs.Prelude.{ℕ, ◌≡◌, ◌<◌, ◌≤◌, Result, Ok, Err}
use Rattle.stored_cases.specs.declared.op.Op.{Op}
use Rattle.stored_cases.specs.declared.op.Op.TheVariants.{Flow, Live, Rewrite, InUse, Conditional, Dying, Check, Renumber, Label, LiveClass}
use Rattle.stored_cases.specs.declared.op.UnknownOp.{UnknownOp}

-- as the file has them
abbrev pub number_of : Op → ℕ
number_of Flow = 1
number_of Live = 2
number_of Rewrite = 3
number_of InUse = 4
number_of Conditional = 5
number_of Dying = 6
number_of Check = 7
number_of Renumber = 8
number_of Label = 9
number_of LiveClass = 10

-- the call of a number, or that number where it is none's
abbrev pub Decodes : ℕ → Result Op UnknownOp → Type 0
Decodes n (Ok op) = number_of op ≡ n
Decodes n (Err e) = (1 ≤ n → 10 < n) × (e.0 ≡ n)
