-- A call's answer in one number, as the marking service reads it. Assumes nothing.
use Rattle.std.specs.Prelude.{ℕ, ◌+◌, ◌*◌, List, [], Result, Ok, Err}
use Rattle.base.specs.declared.Refusal.{Refusal}
use Rattle.base.specs.Refusals.{number_of, place_of, Reply, Done, reply}
use Rattle.sheet.specs.Checks.{check_sheet}

-- number * 2^32 + value: 0 and the answer, or the refusal's number and place
abbrev pub packed : Result ℕ Refusal → ℕ
packed (Ok value) = value
packed (Err e) = number_of e * 4294967296 + place_of e

-- the checks alone: 0 where they accept
unfoldable pub check_reply : List ℕ → Reply
check_reply s = reply (check_sheet s) (Done 0 [])
