-- The live rules: what each kind of instruction does to the set of live locals behind it, and what it means for sets to obey. Assumes nothing.
use Rattle.std.specs.Prelude.{◌≡◌, cond, ◌||◌, ℕ, ◌^◌, ◌<◌, eqb, get_or, length, List, map}
use mathlib.Core.List.{Memᴰ}
use Rattle.dataflow_domains.specs.Mask.{holds, union, minus, set_of, unions, Sub}
use Rattle.stackless_bytecode.specs.declared.Bytecode.{Bytecode}
use Rattle.stackless_bytecode.specs.Kinds.{Assign, Call, Ret, Load, Branch, Abort, Prop, dsts_of, srcs_of, at}
use Rattle.stackless_bytecode.specs.Successors.{successors}

-- ---- one instruction

-- Assign: if the destination d is in the set, it is taken out and the source put in
unfoldable pub assigned : ℕ → ℕ → ℕ → ℕ
assigned d ss m = cond (holds m d) (union ss (minus m (2 ^ d))) m

-- Call: destinations out, sources in, then `gone` out
unfoldable pub called : ℕ → ℕ → ℕ → ℕ → ℕ
called ds ss gone m = minus (union ss (minus m ds)) gone

-- the set before an instruction, from the set m after it
unfoldable pub execute : Bytecode → ℕ → ℕ
execute r m =
    cond (eqb r.kind Assign) (assigned (get_or r.dsts 0 0) (set_of (srcs_of r)) m)
    (cond (eqb r.kind Call) (called (set_of (dsts_of r)) (set_of (srcs_of r)) (cond (eqb r.flag 1) (2 ^ r.abort) 0) m)
    (cond (eqb r.kind Load) (minus m (2 ^ get_or r.dsts 0 0))
    (cond (eqb r.kind Ret || eqb r.kind Branch || eqb r.kind Abort || eqb r.kind Prop) (union (set_of (srcs_of r)) m) m)))

-- ---- sets for all instructions: b k before offset k, a k after it

-- they obey the rules: after is exactly the union of the successors' befores, before exactly what the rule gives
pub record Obeys (code : List Bytecode) (b a : ℕ → ℕ) : Type 0 where
  pub after : (k : ℕ) → k < length code → a k ≡ unions (map b (successors code k))
  pub before : (k : ℕ) → k < length code → b k ≡ execute (at code k) (a k)

-- they have at least what the rules give
pub record Post (code : List Bytecode) (b a : ℕ → ℕ) : Type 0 where
  pub after : (k o : ℕ) → k < length code → Memᴰ o (successors code k) → Sub (b o) (a k)
  pub before : (k : ℕ) → k < length code → Sub (execute (at code k) (a k)) (b k)
