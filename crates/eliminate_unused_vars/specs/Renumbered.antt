-- What a renumbered sheet is: accepted, with no local that nothing needs, the same when renumbered again, and with the old live sets under the new numbers. Assumes nothing.
use Rattle.std.specs.Prelude.{◌≡◌, true, ◌⊎◌, ℕ, ◌≤◌, ◌<◌, length, get_or, List, map}
use mathlib.Core.List.{Memᴰ}
use Rattle.base.specs.Bytes.{Bytes}
use Rattle.base.specs.Lists.{gather}
use Rattle.base.specs.Refusals.{Accepted, Done}
use Rattle.dataflow_domains.specs.Mask.{holds}
use Rattle.sheet.specs.Layout.{count_of, locals_of, user_locals_of, parameters_of, refs_of, code_of}
use Rattle.sheet.specs.Checks.{check_sheet}
use Rattle.livevar_analysis.specs.Analysis.{LiveVarInfo, no_info, Analyzed, analyze}
use Rattle.eliminate_unused_vars.specs.Remap.{mentions, new_number, remap_set}
use Rattle.eliminate_unused_vars.specs.Renumber.{staying_in, renumbered_code, renumber_reply}

-- some instruction of the sheet mentions x
abbrev pub Mentioned : List ℕ → ℕ → Type 0
Mentioned s x = Memᴰ x (gather mentions (code_of s))

-- what live gives for a sheet
abbrev pub live_of : List ℕ → Analyzed
live_of s = analyze (code_of s) (locals_of s)

-- an instruction's live sets under the new numbers
abbrev pub remap_info : List ℕ → LiveVarInfo → LiveVarInfo
remap_info stay x = record { before = remap_set stay x.before; after = remap_set stay x.after }

-- t is s renumbered
pub record Renumbered (s t : List ℕ) : Type 0 where
  -- it is accepted, and n, the user locals and the parameters are as they were
  pub bytes : Bytes t
  pub accepted : check_sheet t ≡ Accepted
  pub count : count_of t ≡ count_of s
  pub users : user_locals_of t ≡ user_locals_of s
  pub params : parameters_of t ≡ parameters_of s
  -- its locals are those that stay; its references are theirs; its code is the old one under the new numbers
  pub locals : locals_of t ≡ length (staying_in s)
  pub refs : refs_of t ≡ remap_set (staying_in s) (refs_of s)
  pub code : code_of t ≡ renumbered_code s
  -- two mentioned locals never get one number
  pub apart : (x y : ℕ) → Mentioned s x → Mentioned s y → new_number (staying_in s) x ≡ new_number (staying_in s) y → x ≡ y
  -- every local is a user local, which keeps its number, or mentioned
  pub own : (i : ℕ) → i < user_locals_of s → new_number (staying_in s) i ≡ i
  pub only : (i : ℕ) → i < locals_of t → (i < user_locals_of t) ⊎ Mentioned t i
  -- renumbering again changes nothing
  pub again : (lent : ℕ) → length t ≤ lent → renumber_reply t lent ≡ Done (length t) t
  -- the live sets are the old ones under the new numbers, at every instruction and on both sides; no local of theirs is lost; and as many blocks are taken
  pub live : (live_of t).info ≡ map (remap_info (staying_in s)) (live_of s).info
  pub before : (k x : ℕ) → holds (get_or (live_of s).info k no_info).before x ≡ true → Memᴰ x (staying_in s)
  pub after : (k x : ℕ) → holds (get_or (live_of s).info k no_info).after x ≡ true → Memᴰ x (staying_in s)
  pub taken : (live_of t).taken ≡ (live_of s).taken
