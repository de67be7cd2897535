-- What analyze leaves: the count of blocks taken, and the live sets as bytes. Assumes nothing.
use Rattle.std.specs.Prelude.{◌≡◌, List, ◌++◌, ℕ, ◌*◌, length, drop}
use Rattle.base.specs.Sizes.{pair_bytes}
use Rattle.sheet.specs.Layout.{code_of, locals_of}
use Rattle.livevar_analysis.specs.Analysis.{analyze, live_bytes}

-- r blocks were taken, and the front of `out` has the live sets
pub record LiveWritten (s : List ℕ) (r : ℕ) (out out' : List ℕ) : Type 0 where
  pub taken : r ≡ (analyze (code_of s) (locals_of s)).taken
  pub written : out' ≡ live_bytes (analyze (code_of s) (locals_of s)).info ++ drop (pair_bytes * length (code_of s)) out
