-- The call renumber: refusal 15, the new heading and the new sheet. Assumes nothing.
use Rattle.base.specs.declared.Refusal.TheVariants.{LocalHidden}
use Rattle.std.specs.Prelude.{ℕ, ◌+◌, ◌-◌, Bool, not, ◌||◌, ◌&&◌, List, ◌++◌, map, eqb, length}
use Rattle.base.specs.Sizes.{set_bytes, block_bytes}
use Rattle.base.specs.Lists.{first_bad}
use Rattle.base.specs.Bytes.{bytes_of, part}
use Rattle.base.specs.Refusals.{Verdict, check, ◌then◌, lends, Reply, Done, reply}
use Rattle.stackless_bytecode.specs.declared.Bytecode.{Bytecode}
use Rattle.stackless_bytecode.specs.Kinds.{Call, IsParent, WriteBack, at}
use Rattle.sheet.specs.Layout.{count_of, user_locals_of, refs_of, code_of, sheet_of}
use Rattle.sheet.specs.Checks.{check_sheet}
use Rattle.eliminate_unused_vars.specs.Remap.{staying, remap, remap_set}

-- its payload hides a local: IsParent and WriteBack, whatever the payload
unfoldable pub hides_local : Bytecode → Bool
hides_local r = eqb r.kind Call && (eqb r.sub IsParent || eqb r.sub WriteBack)

-- the locals of a sheet that stay, and its code under their new numbers
abbrev pub staying_in : List ℕ → List ℕ
staying_in s = staying (user_locals_of s) (code_of s)

abbrev pub renumbered_code : List ℕ → List Bytecode
renumbered_code s = map (remap (staying_in s)) (code_of s)

-- the heading behind the count, with another number of locals and another reference mask
abbrev pub rest_with : List ℕ → ℕ → ℕ → List ℕ
rest_with s locals refs =
    bytes_of 2 locals ++ part s 8 8 ++ bytes_of set_bytes refs ++ part s (16 + set_bytes) (block_bytes - 16 - set_bytes)

-- with the number of those that stay and the references among them; all else is as it was
unfoldable pub renumbered_rest : List ℕ → List ℕ
renumbered_rest s = rest_with s (length (staying_in s)) (remap_set (staying_in s) (refs_of s))

abbrev pub renumbered_sheet : List ℕ → List ℕ
renumbered_sheet s = sheet_of (renumbered_rest s) (renumbered_code s)

-- 15: the first instruction that hides a local; 9: fewer bytes are lent than the sheet has
abbrev pub check_open : List ℕ → ℕ → Verdict
check_open s lent = check LocalHidden (first_bad (count_of s) 0 (λ k. not (hides_local (at (code_of s) k)))) then lends lent (length s)

-- the length of the new sheet and the sheet, where so many bytes are lent
unfoldable pub renumber_reply : List ℕ → ℕ → Reply
renumber_reply s lent = reply (check_sheet s then check_open s lent) (Done (length (renumbered_sheet s)) (renumbered_sheet s))
