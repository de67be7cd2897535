-- What is counted of the cases of a file. Assumes nothing.
use Rattle.std.specs.Prelude.{ℕ, ◌+◌, ◌%◌, ◌^◌, Bool, cond, Option, None, Some, get_or, set, replicate}
use Rattle.stored_cases.specs.Ops.{number_of}
use Rattle.stored_cases.specs.declared.tally.Asked.{Asked}
use Rattle.stored_cases.specs.declared.tally.Tally.{Tally}

-- one more, in 32 bits
abbrev pub more : ℕ → ℕ
more n = (n + 1) % 2 ^ 32

-- nothing is counted
abbrev pub no_cases : Tally
no_cases = record { of_op = replicate 11 0; cases = 0; differences = 0; wrong = 0; found = 0 }

-- one more difference
abbrev pub differing : Tally → Tally
differing t = record t { differences = more t.differences }

-- a case as it stands: one more of its op and of all
abbrev pub asked_once : Tally → ℕ → Tally
asked_once t op = record t { of_op = set t.of_op op (more (get_or t.of_op op 0)); cases = more t.cases }

-- a case made wrong: it is found where the call does not answer so
abbrev pub counted_wrong : Tally → Bool → Tally
counted_wrong t same = cond same (differing (record t { wrong = more t.wrong })) (record t { wrong = more t.wrong; found = more t.found })

-- what came of a case, none where it is damaged
abbrev pub counted : Tally → Option Asked → Tally
counted t None = differing t
counted t (Some a) = cond a.wrong (counted_wrong t a.same) (cond a.same (asked_once t (number_of a.op)) (differing (asked_once t (number_of a.op))))
