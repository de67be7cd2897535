-- The plan of a rewriting: what is read for it, its two tables, and the new code that they say. Assumes nothing.
use Rattle.std.specs.Prelude.{◌≡◌, Bool, true, false, cond, not, List, [], ◌∷◌, ◌++◌, ℕ, zero, suc, ◌+◌, ◌*◌, ◌/◌, ◌^◌, ◌≤◌, ◌<◌, eqb, ltb, get_or, length}
use Rattle.std.specs.Int.Bits.{bit_and}
use Rattle.std.specs.Int.Count.{ones}
use Rattle.base.specs.Sizes.{pair_bytes, max_locals, max_number, record_bytes}
use Rattle.base.specs.Refusals.{Accepted}
use Rattle.base.specs.Lists.{count, joins}
use Rattle.base.specs.Bytes.{part}
use Rattle.dataflow_domains.specs.Mask.{minus}
use Rattle.dataflow_domains.specs.Members.{members}
use Rattle.stackless_bytecode.specs.declared.Bytecode.{Bytecode}
use Rattle.stackless_bytecode.specs.Kinds.{Branch, at}
use Rattle.stackless_bytecode.specs.Slots.{Resolved}
use Rattle.sheet.specs.Layout.{count_of, code_of}
use Rattle.sheet.specs.Checks.{check_sheet}
use Rattle.livevar_analysis.specs.Analysis.{LiveVarInfo, info_in}
use Rattle.livevar_transform.specs.declared.plan.Fate.{Fate}
use Rattle.livevar_transform.specs.declared.plan.Fate.TheVariants.{Kept, Dropped, Merged}
use Rattle.livevar_transform.specs.declared.plan.Next.{Next}
use Rattle.livevar_transform.specs.declared.plan.Counts.{Counts}
use Rattle.livevar_transform.specs.Rewrite.{aimed, into, destroy_block, block_size, is_merged, is_dropped, target_of, lost_refs}

-- ---- what is read

-- an accepted sheet of n instructions, and two sets of each in bytes
pub record Known (s info : List ℕ) (n : ℕ) : Type 0 where
  pub accepted : check_sheet s ≡ Accepted
  pub count : n ≡ count_of s
  pub room : pair_bytes * n ≤ length info

-- and the offset of the label that each slot names
pub record Ready (s targets info : List ℕ) (n : ℕ) : Type 0 where
  pub known : Known s info n
  pub resolved : Resolved (code_of s) targets
  pub slots : 2 * n ≤ length targets

-- the sets of instruction k, in its bytes
abbrev pub sides_at : List ℕ → ℕ → LiveVarInfo
sides_at info k = info_in (part info (pair_bytes * k) pair_bytes)

-- ---- what becomes of an offset

-- the Call before k is merged
unfoldable pub is_behind : List Bytecode → List LiveVarInfo → ℕ → Bool
is_behind code info zero = false
is_behind code info (suc k) = is_merged code info k

-- it goes; it is kept with the destination of the Assign behind it; or it is kept
unfoldable pub fate_of : List Bytecode → List LiveVarInfo → ℕ → Fate
fate_of code info k = cond (is_dropped code info k) Dropped (cond (is_merged code info k) Merged Kept)

-- the fate of offset k by the table
abbrev pub fate_at : List Fate → ℕ → Fate
fate_at fates k = get_or fates k Kept

abbrev pub goes : Fate → Bool
goes Kept = false
goes Dropped = true
goes Merged = false

abbrev pub merges : Fate → Bool
merges Kept = false
merges Dropped = false
merges Merged = true

-- ---- what an edge loses

-- edge e of r, with the offset of its target in a slot
unfoldable pub lost_by : List ℕ → List ℕ → ℕ → ℕ → Bytecode → ℕ
lost_by targets info refs e r = cond (eqb r.kind Branch) (minus (bit_and (sides_at info (e / 2)).after refs) (sides_at info (get_or targets e 0)).before) 0

-- what edge e loses by the table, a mask for each edge
abbrev pub lost_at : List ℕ → ℕ → List ℕ
lost_at lost e = members max_locals (get_or lost e 0)

-- ---- the tables

-- the tables hold the plan, as far as offset k
pub record Planned (code : List Bytecode) (info : List LiveVarInfo) (refs : ℕ) (fates : List Fate) (lost : List ℕ) (k : ℕ) : Type 0 where
  pub fate : (j : ℕ) → j < k → fate_at fates j ≡ fate_of code info j
  pub edge : (e : ℕ) → e < 2 * k → lost_refs code info refs e ≡ lost_at lost e

-- behind a merged Call of n instructions stands another
pub record MergedInside (fates : List Fate) (n : ℕ) : Type 0 where
  pub each : (k : ℕ) → k < n → fate_at fates k ≡ Merged → k + 1 < n

-- ---- the numbers by the table

-- the numbers behind a block for these references: a label, and an attribute id for each of its instructions
abbrev pub past : Next → List ℕ → Next
past x xs = record { label = x.label + cond (ltb 0 (length xs)) 1 0; attr = x.attr + block_size xs }

-- the numbers at edge e
unfoldable pub numbers_at : Next → List ℕ → ℕ → Next
numbers_at first lost zero = first
numbers_at first lost (suc e) = past (numbers_at first lost e) (lost_at lost e)

pub record NextBelow (m : ℕ) (x : Next) : Type 0 where
  pub label : x.label < m
  pub attr : x.attr < m

-- no number of a sheet comes near it
abbrev pub next_room : ℕ
next_room = 16777216

-- the first new numbers are at most one above the highest
abbrev pub LowNext : Next → Type 0
LowNext x = NextBelow (max_number + 2) x

-- the kept instructions, and the numbers behind all edges
pub record Counted (fates : List Fate) (lost : List ℕ) (n : ℕ) (first : Next) (c : Counts) : Type 0 where
  pub kept : c.kept ≡ count n (λ k. not (goes (fate_at fates k)))
  pub next : c.next ≡ numbers_at first lost (2 * n)

-- ---- the new code by the tables

-- where an edge goes: to a new label if it loses any of these references
abbrev pub goes_at : List ℕ → ℕ → ℕ → ℕ
goes_at xs old label = cond (ltb 0 (length xs)) label old

-- the Branch r at offset k, where x are the numbers
unfoldable pub aimed_at : List ℕ → ℕ → Next → Bytecode → Bytecode
aimed_at lost k x r = aimed r (goes_at (lost_at lost (2 * k)) r.one x.label) (goes_at (lost_at lost (2 * k + 1)) r.two (past x (lost_at lost (2 * k))).label)

-- what stands for offset k, if it is kept
unfoldable pub stands_at : List Bytecode → List Fate → List ℕ → ℕ → Next → Bytecode
stands_at code fates lost k x = cond (eqb (at code k).kind Branch) (aimed_at lost k x (at code k)) (cond (merges (fate_at fates k)) (into (at code k) (at code (suc k)).dsts) (at code k))

unfoldable pub kept_at : List Bytecode → List Fate → List ℕ → ℕ → Next → List Bytecode
kept_at code fates lost k x = cond (goes (fate_at fates k)) [] (stands_at code fates lost k x ∷ [])

-- what edge e adds
unfoldable pub added_at : List Bytecode → List ℕ → ℕ → Next → List Bytecode
added_at code lost e x = destroy_block x.attr x.label (target_of code e) (lost_at lost e)

-- all of it
abbrev pub kept_by : List Bytecode → List Fate → List ℕ → Next → ℕ → List Bytecode
kept_by code fates lost first k = kept_at code fates lost k (numbers_at first lost (2 * k))

abbrev pub added_by : List Bytecode → List ℕ → Next → ℕ → List Bytecode
added_by code lost first e = added_at code lost e (numbers_at first lost e)

abbrev pub code_by : List Bytecode → List Fate → List ℕ → ℕ → Next → List Bytecode
code_by code fates lost n first = joins n (kept_by code fates lost first) ++ joins (2 * n) (added_by code lost first)

-- ---- what must fit

-- room for the block of the references m: its label, its attribute ids and its records
pub record NewBlockRoom (x : Next) (m size : ℕ) : Type 0 where
  pub some : m ≡ 0 → ⊥
  pub small : m < 2 ^ max_locals
  pub label : x.label ≤ max_number
  pub attr : x.attr + ones m + 2 ≤ suc max_number
  pub fits : record_bytes * (ones m + 2) ≤ size

-- the same by a list of references, where there are any
pub record BlockFits (xs : List ℕ) (x : Next) (size : ℕ) : Type 0 where
  pub label : 0 < length xs → x.label ≤ max_number
  pub attr : 0 < length xs → x.attr + block_size xs ≤ suc max_number
  pub records : record_bytes * block_size xs ≤ size

-- the new labels of both edges of offset k
pub record LabelsFit (lost : List ℕ) (k : ℕ) (x : Next) : Type 0 where
  pub one : 0 < length (lost_at lost (2 * k)) → x.label ≤ max_number
  pub two : 0 < length (lost_at lost (2 * k + 1)) → (past x (lost_at lost (2 * k))).label ≤ max_number

-- the numbers of all edges
pub record Fitting (lost : List ℕ) (n : ℕ) (first : Next) : Type 0 where
  pub label : (e : ℕ) → e < 2 * n → 0 < length (lost_at lost e) → (numbers_at first lost e).label ≤ max_number
  pub attr : (e : ℕ) → e < 2 * n → 0 < length (lost_at lost e) → (numbers_at first lost e).attr + block_size (lost_at lost e) ≤ suc max_number
