-- What a rewritten sheet is: accepted again, with the new code, and with the heading's other fields as they were. Assumes nothing.
use Rattle.std.specs.Prelude.{◌≡◌, List, ℕ, ◌≤◌, length}
use Rattle.base.specs.Refusals.{Accepted}
use Rattle.sheet.specs.Layout.{user_locals_of, parameters_of, locals_of, refs_of, code_of}
use Rattle.sheet.specs.Checks.{check_sheet}
use Rattle.base.specs.Bytes.{Bytes}
use Rattle.livevar_transform.specs.Rewrite.{new_code}

-- t is a list of bytes and accepted, its code is the new code of s and has an instruction, and the heading's other fields are those of s
pub record AcceptedRewriting (s t : List ℕ) : Type 0 where
  pub bytes : Bytes t
  pub accepted : check_sheet t ≡ Accepted
  pub code : code_of t ≡ new_code s
  pub some : 1 ≤ length (code_of t)
  pub locals : locals_of t ≡ locals_of s
  pub users : user_locals_of t ≡ user_locals_of s
  pub params : parameters_of t ≡ parameters_of s
  pub refs : refs_of t ≡ refs_of s
