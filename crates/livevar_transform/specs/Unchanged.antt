-- When a sheet is its own rewriting: nothing is dropped or merged, and no edge loses a reference. Assumes nothing.
use Rattle.std.specs.Prelude.{◌≡◌, false, List, ℕ, ◌*◌, ◌≤◌, ◌<◌, length}
use Rattle.base.specs.Sizes.{max_bytes}
use Rattle.base.specs.Refusals.{Done}
use Rattle.stackless_bytecode.specs.declared.Bytecode.{Bytecode}
use Rattle.livevar_analysis.specs.Analysis.{LiveVarInfo}
use Rattle.livevar_transform.specs.Rewrite.{is_dropped, is_losing, rewrite_reply}

-- nothing is dropped, so nothing is merged either, and no edge loses a reference
pub record Untouched (code : List Bytecode) (is : List LiveVarInfo) (refs : ℕ) : Type 0 where
  pub kept : (k : ℕ) → k < length code → is_dropped code is k ≡ false
  pub whole : (e : ℕ) → e < 2 * length code → is_losing code is refs e ≡ false

-- wherever enough is lent, rewriting gives the sheet itself
pub record OwnRewriting (s : List ℕ) : Type 0 where
  pub is : (lent : ℕ) → max_bytes ≤ lent → rewrite_reply s lent ≡ Done (length s) s
