-- Marks at the Labels that are named, made slot by slot, and the texts of those that have none. Assumes nothing.
use Rattle.std.specs.Prelude.{◌≡◌, ℕ, ◌<◌, Bool, true, false, cond, not, ◌&&◌, eqb, get_or, length, take, List, [], codes}
use mathlib.Core.List.{Memᴰ}
use Rattle.base.specs.Lists.{gather}
use Rattle.stackless_bytecode.specs.declared.Bytecode.{Bytecode}
use Rattle.stackless_bytecode.specs.declared.Lookup.TheVariants.{Named}
use Rattle.stackless_bytecode.specs.Kinds.{Label, at, label_of}
use Rattle.stackless_bytecode.specs.Labels.{lookup, is_named}
use Rattle.stackless_bytecode.specs.Slots.{no_label, slot_at}
use Rattle.listing.specs.Words.{said}
use Rattle.pages.specs.Page.{unnamed_text}

-- ---- marks

-- what is marked once the first e slots are passed
pub record MarkedTo (code : List Bytecode) (targets : List ℕ) (e : ℕ) (marks : List Bool) : Type 0 where
  pub sound : (o : ℕ) → get_or marks o false ≡ true → (l : ℕ) × (lookup code l ≡ Named o)
  pub done : (i : ℕ) → i < e → slot_at code i < no_label → get_or marks (get_or targets i 0) false ≡ true

-- a mark at a Label that is named, and none at another
pub record NamedMarks (code : List Bytecode) (marks : List Bool) : Type 0 where
  pub each : (k l : ℕ) → k < length code → Memᴰ l (label_of (at code k)) → get_or marks k false ≡ is_named (lookup code l)

-- ---- texts

-- a Label that has no mark
unfoldable pub is_unmarked : Bytecode → Bool → Bool
is_unmarked r mark = eqb r.kind Label && not mark

-- its text
unfoldable pub unmarked_text : Bytecode → Bool → List ℕ
unmarked_text r mark = cond (is_unmarked r mark) (said (codes " L") r.one) []

-- the text of the first k instructions
unfoldable pub unnamed_to : List Bytecode → ℕ → List ℕ
unnamed_to code k = gather (unnamed_text code) (gather label_of (take k code))
