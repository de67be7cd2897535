-- Term 3, for every sheet that the checks accept (`term3` in Term3Laws): the live sets obey the rules, no sets that obey them have less, and the count is
-- the work list's own. Assumes nothing.
use Rattle.std.specs.Prelude.{◌≡◌, List, ℕ, ◌<◌, get_or, length}
use Rattle.dataflow_domains.specs.Mask.{Sub}
use Rattle.sheet.specs.Layout.{locals_of, code_of}
use Rattle.livevar_analysis.specs.Live.{Obeys, Post}
use Rattle.livevar_analysis.specs.Analysis.{no_info, analyze}
use Rattle.livevar_analysis.specs.LiveCall.{TakenUntilEmpty}

pub record Term3 (s : List ℕ) : Type 0 where
  -- one pair of sets for each instruction
  pub count : length (analyze (code_of s) (locals_of s)).info ≡ length (code_of s)
  -- they obey the rules
  pub obeys : Obeys (code_of s) (λ k. (get_or (analyze (code_of s) (locals_of s)).info k no_info).before) (λ k. (get_or (analyze (code_of s) (locals_of s)).info k no_info).after)
  -- whatever obeys the rules, with any bits, has all that they have
  pub least : (b a : ℕ → ℕ) → Obeys (code_of s) b a → (k : ℕ) → k < length (code_of s)
      → Sub (get_or (analyze (code_of s) (locals_of s)).info k no_info).before (b k) × Sub (get_or (analyze (code_of s) (locals_of s)).info k no_info).after (a k)
  -- so has whatever has at least what the rules give
  pub within : (b a : ℕ → ℕ) → Post (code_of s) b a → (k : ℕ) → k < length (code_of s)
      → Sub (get_or (analyze (code_of s) (locals_of s)).info k no_info).before (b k) × Sub (get_or (analyze (code_of s) (locals_of s)).info k no_info).after (a k)
  -- the count is the work list's own, and within the bound of the paper
  pub taken : TakenUntilEmpty s (analyze (code_of s) (locals_of s)).taken
