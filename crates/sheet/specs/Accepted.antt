-- An accepted sheet of n instructions, and the offsets of the labels that it names: what all that works on its code is given. Assumes nothing.
use Rattle.std.specs.Prelude.{◌≡◌, List, ℕ, ◌*◌, ◌≤◌, length}
use Rattle.base.specs.Refusals.{Accepted}
use Rattle.stackless_bytecode.specs.Slots.{Resolved}
use Rattle.sheet.specs.Layout.{count_of, code_of}
use Rattle.sheet.specs.Checks.{check_sheet}

pub record CheckedSheet (s : List ℕ) (n : ℕ) (targets : List ℕ) : Type 0 where
  pub accepted : check_sheet s ≡ Accepted
  pub count : n ≡ count_of s
  pub resolved : Resolved (code_of s) targets
  pub slots : 2 * n ≤ length targets
