-- The code of an accepted sheet: how long it is, and what stands in it. Assumes nothing.
use Rattle.std.specs.Prelude.{◌≡◌, refl, ℕ, ◌≤◌, ◌<◌, length, List}
use Rattle.std.proofs.Common.{arith}
use Rattle.base.specs.Sizes.{max_instructions}
use Rattle.base.specs.Refusals.{Accepted}
use Rattle.stackless_bytecode.specs.Kinds.{at}
use Rattle.sheet.specs.Layout.{count_of, instruction_at, code_of}
use Rattle.sheet.specs.Checks.{check_sheet}
use Rattle.sheet.specs.Shaped.{Shaped, code_size, code_at}
use Rattle.sheet.specs.FormLaws.{accepted_shaped}

module _ (s : List ℕ) (accepted : check_sheet s ≡ Accepted) where
  shaped : Shaped s (count_of s)
  shaped = accepted_shaped s (count_of s) refl accepted

  -- no more than 1,024 instructions
  pub accepted_few : length (code_of s) ≤ max_instructions
  accepted_few = omega (arith, code_size shaped, shaped.few)

  -- instruction k is the one at its place in the bytes
  pub accepted_at : (k : ℕ) → k < length (code_of s) → at (code_of s) k ≡ instruction_at s k
  accepted_at k h = code_at shaped k (omega (arith, code_size shaped))
