-- The call label: what a label is in an accepted sheet, in one number; and what that number says. Assumes nothing.
use Rattle.std.specs.Prelude.{◌≡◌, ℕ, ◌+◌, ◌*◌, ◌/◌, ◌%◌, ◌≤◌, ◌<◌, length, List, []}
use mathlib.Core.List.{Memᴰ}
use Rattle.base.specs.Refusals.{Reply, Done, reply}
use Rattle.stackless_bytecode.specs.declared.Bytecode.{Bytecode}
use Rattle.stackless_bytecode.specs.declared.Lookup.{Lookup}
use Rattle.stackless_bytecode.specs.Kinds.{at, branch_dests, label_of}
use Rattle.stackless_bytecode.specs.Labels.{lookup, way_of, offset_of}
use Rattle.sheet.specs.Layout.{code_of}
use Rattle.sheet.specs.Checks.{check_sheet}

-- ---- the call

-- 65,536 times the way, and the offset
unfoldable pub label_value : Lookup → ℕ
label_value x = 65536 * way_of x + offset_of x

-- what label l is in an accepted sheet, for any number l
unfoldable pub label_reply : List ℕ → ℕ → Reply
label_reply s l = reply (check_sheet s) (Done (label_value (lookup (code_of s) l)) [])

-- ---- what the number says, as a caller takes it apart

abbrev pub way_in : ℕ → ℕ
way_in value = value / 65536

abbrev pub offset_in : ℕ → ℕ
offset_in value = value % 65536

pub record LabelMeaning (code : List Bytecode) (l value : ℕ) : Type 0 where
  -- way 1, 2 or 3
  pub ways : (1 ≤ way_in value) × (way_in value ≤ 3)
  -- 1 exactly where some instruction names the label
  pub named : way_in value ≡ 1 → (k : ℕ) × (k < length code) × Memᴰ l (branch_dests (at code k))
  pub names : (k : ℕ) → k < length code → Memᴰ l (branch_dests (at code k)) → way_in value ≡ 1
  -- 1 or 2 exactly where some Label has the number: it stands at the offset, and no other has it
  pub label : way_in value < 3 → (offset_in value < length code) × Memᴰ l (label_of (at code (offset_in value)))
  pub labels : (o : ℕ) → o < length code → Memᴰ l (label_of (at code o)) → (way_in value < 3) × (offset_in value ≡ o)
