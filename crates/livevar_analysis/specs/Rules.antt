-- An instruction's live rule as two sets and a flag, decoded once: what it is to apply one, and rules in a slice. Assumes nothing.
use Rattle.std.specs.Prelude.{◌≡◌, Bool, true, false, cond, ◌&&◌, List, ℕ, ◌≤◌, ◌<◌, eqb, get_or, length}
use Rattle.base.specs.Sizes.{max_locals, list_places}
use Rattle.dataflow_domains.specs.Mask.{union, minus}
use Rattle.dataflow_domains.specs.Sets.{mask, no_set}
use Rattle.stackless_bytecode.specs.declared.Bytecode.{Bytecode}
use Rattle.stackless_bytecode.specs.Kinds.{Assign, Load, at, is_flagged}
use Rattle.livevar_analysis.specs.declared.rules.Rule.{Rule}
use Rattle.livevar_analysis.specs.Live.{execute}

-- ---- one rule

-- the set before, from the set m after: where `assign` and m has nothing of `kill` it is m, else `kill` out and `gen` in
unfoldable pub applied : Bool → ℕ → ℕ → ℕ → ℕ
applied assign kill gen m = cond (assign && eqb (minus m kill) m) m (union gen (minus m kill))

-- the first n places of a list are locals
pub record ListedLocals (n : ℕ) (list : List ℕ) : Type 0 where
  pub few : n ≤ list_places
  pub each : (i : ℕ) → i < n → get_or list i 0 < max_locals

-- an instruction's lists and its abort local are in range, and an Assign and a Load have a destination
pub record InRange (r : Bytecode) : Type 0 where
  pub dsts : ListedLocals r.ndst r.dsts
  pub srcs : ListedLocals r.nsrc r.srcs
  pub abort : is_flagged r ≡ true → r.abort < max_locals
  pub assign : r.kind ≡ Assign → 1 ≤ r.ndst
  pub load : r.kind ≡ Load → 1 ≤ r.ndst

-- the rule that does nothing: what stands outside a slice of rules
abbrev pub no_rule : Rule
no_rule = record { kills = no_set; gens = no_set; assign = false }

-- a rule, applied to m
abbrev pub rule_by : Rule → ℕ → ℕ
rule_by r m = applied r.assign (mask r.kills) (mask r.gens) m

-- ---- rules in a slice

-- rule k of the slice, applied to m
abbrev pub rule_at : List Rule → ℕ → ℕ → ℕ
rule_at rules k m = rule_by (get_or rules k no_rule) m

-- the slice has the rule of each instruction
pub record Ruled (code : List Bytecode) (rules : List Rule) : Type 0 where
  pub each : (k m : ℕ) → k < length code → rule_at rules k m ≡ execute (at code k) m

-- rule k of the slice is (kill, gen, assign) now, and those before it are as they were
pub record RulePut (rules : List Rule) (k kill gen : ℕ) (assign : Bool) (rules₁ : List Rule) : Type 0 where
  pub killed : mask (get_or rules₁ k no_rule).kills ≡ kill
  pub genned : mask (get_or rules₁ k no_rule).gens ≡ gen
  pub flagged : (get_or rules₁ k no_rule).assign ≡ assign
  pub others : (i : ℕ) → i < k → get_or rules₁ i no_rule ≡ get_or rules i no_rule
