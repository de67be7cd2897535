-- Rewriting, offset by offset: what is dropped, what is merged, the edges that lose references and their blocks, the numbering, refusals 10 and 11,
-- and the new sheet. Every number is a closed formula of the offset or the edge. Assumes nothing.
use Rattle.base.specs.declared.Refusal.TheVariants.{CodeTooLong, NumberTooHigh}
use Rattle.std.specs.Prelude.{ℕ, zero, suc, ◌+◌, ◌*◌, ◌/◌, ◌%◌, max, Bool, true, false, cond, not, ◌||◌, ◌&&◌, List, [], ◌∷◌, ◌++◌, map, eqb, leb, ltb, get_or, length}
use Rattle.std.specs.Int.Bits.{bit_and}
use Rattle.base.specs.Sizes.{max_locals, max_instructions, max_bytes, max_number}
use Rattle.base.specs.Lists.{keep, count, total, joins, gather}
use Rattle.base.specs.Refusals.{◌then◌, lends, Reply, Done, reply, check_whole}
use Rattle.dataflow_domains.specs.Mask.{holds, minus}
use Rattle.stackless_bytecode.specs.declared.Bytecode.{Bytecode}
use Rattle.stackless_bytecode.specs.Kinds.{Assign, Call, Load, Branch, Jump, Label, Destroy, at, label_of}
use Rattle.stackless_bytecode.specs.Labels.{label_offset}
use Rattle.sheet.specs.Layout.{heading_rest, padded, locals_of, refs_of, code_of, sheet_of}
use Rattle.sheet.specs.Checks.{check_sheet}
use Rattle.livevar_analysis.specs.Analysis.{LiveVarInfo, no_info, analyze}

-- ---- new instructions

-- of this kind, sub, attribute id, label one and sources
abbrev pub made : ℕ → ℕ → ℕ → ℕ → List ℕ → Bytecode
made kind sub attr one srcs = record {
  kind = kind;
  sub = sub;
  attr = attr;
  one = one;
  two = 0;
  ndst = 0;
  nsrc = length srcs;
  flag = 0;
  abort = 0;
  dsts = padded [];
  srcs = padded srcs;
  payload = 0;
}

-- r with other labels
abbrev pub aimed : Bytecode → ℕ → ℕ → Bytecode
aimed r one two = record {
  kind = r.kind;
  sub = r.sub;
  attr = r.attr;
  one = one;
  two = two;
  ndst = r.ndst;
  nsrc = r.nsrc;
  flag = r.flag;
  abort = r.abort;
  dsts = r.dsts;
  srcs = r.srcs;
  payload = r.payload;
}

-- r with another list of destinations
abbrev pub into : Bytecode → List ℕ → Bytecode
into r dsts = record {
  kind = r.kind;
  sub = r.sub;
  attr = r.attr;
  one = r.one;
  two = r.two;
  ndst = r.ndst;
  nsrc = r.nsrc;
  flag = r.flag;
  abort = r.abort;
  dsts = dsts;
  srcs = r.srcs;
  payload = r.payload;
}

-- a Destroy for each local, from attribute id a on
unfoldable pub destroys : ℕ → List ℕ → List Bytecode
destroys a [] = []
destroys a (x ∷ xs) = made Call Destroy a 0 (x ∷ []) ∷ destroys (suc a) xs

-- the block of an edge that loses these references (`create_block_to_destroy_refs`): Label, the Destroys, Jump to the old target; none where none is lost
unfoldable pub destroy_block : ℕ → ℕ → ℕ → List ℕ → List Bytecode
destroy_block a label target [] = []
destroy_block a label target (x ∷ xs) =
    made Label 0 a label [] ∷ (destroys (suc a) (x ∷ xs) ++ (made Jump 0 (suc a + length (x ∷ xs)) target [] ∷ []))

-- how many instructions that block has
unfoldable pub block_size : List ℕ → ℕ
block_size [] = 0
block_size (x ∷ xs) = 3 + length xs

-- ---- what is dropped and what is merged

-- the sets of offset k
abbrev pub info_at : List LiveVarInfo → ℕ → LiveVarInfo
info_at info k = get_or info k no_info

module _ (code : List Bytecode) (info : List LiveVarInfo) where
  -- k is a Load or an Assign whose destination is not in after
  unfoldable pub is_dead : ℕ → Bool
  is_dead k =
      (eqb (at code k).kind Assign || eqb (at code k).kind Load) && not (holds (info_at info k).after (get_or (at code k).dsts 0 0))

  -- k is a Call with one destination, directly before an Assign from it, and that destination is not in the Assign's after
  unfoldable pub is_merged : ℕ → Bool
  is_merged k =
      eqb (at code k).kind Call && eqb (at code k).ndst 1 && eqb (at code (suc k)).kind Assign
      && eqb (get_or (at code (suc k)).srcs 0 0) (get_or (at code k).dsts 0 0)
      && not (holds (info_at info (suc k)).after (get_or (at code k).dsts 0 0))

  -- k goes: it is dead, or the Assign behind a merged Call
  unfoldable pub is_dropped : ℕ → Bool
  is_dropped zero = is_dead zero
  is_dropped (suc k) = is_dead (suc k) || is_merged k

-- ---- the edges: 2k is the then edge of the Branch at k, 2k + 1 its else edge

-- the label that edge e goes to
unfoldable pub target_of : List Bytecode → ℕ → ℕ
target_of code e = cond (eqb (e % 2) 0) (at code (e / 2)).one (at code (e / 2)).two

-- the highest number of a list, 0 where there is none
unfoldable pub highest : List ℕ → ℕ
highest [] = 0
highest (x ∷ xs) = max x (highest xs)

-- the next numbers: above the highest Label, and above the highest attribute id
unfoldable pub next_free_label : List Bytecode → ℕ
next_free_label code = suc (highest (gather label_of code))

unfoldable pub next_free_attr : List Bytecode → ℕ
next_free_attr code = suc (highest (map (λ r. r.attr) code))

module _ (code : List Bytecode) (info : List LiveVarInfo) (refs : ℕ) where
  -- the references that edge e loses, ascending: in the Branch's after, and not in its target's before
  unfoldable pub lost_refs : ℕ → List ℕ
  lost_refs e =
      elim (eqb (at code (e / 2)).kind Branch) [
        | true ↦ keep max_locals 0 (holds (minus (bit_and (info_at info (e / 2)).after refs) (info_at info (label_offset code (target_of code e))).before))
        | false ↦ []
      ]

  unfoldable pub is_losing : ℕ → Bool
  is_losing e = ltb 0 (length (lost_refs e))

  -- its new label, and its block's first attribute id: one label for each losing edge before it, one id for each of their instructions
  unfoldable pub label_for : ℕ → ℕ
  label_for e = next_free_label code + count e is_losing

  unfoldable pub attr_for : ℕ → ℕ
  attr_for e = next_free_attr code + total e (λ j. block_size (lost_refs j))

  -- where edge e goes in the new code
  unfoldable pub goes_to : ℕ → ℕ
  goes_to e = cond (is_losing e) (label_for e) (target_of code e)

  -- ---- the new code (`transform_code`)

  -- what stands for offset k, if it is kept
  unfoldable pub stands_for : ℕ → Bytecode
  stands_for k =
      cond (eqb (at code k).kind Branch) (aimed (at code k) (goes_to (2 * k)) (goes_to (suc (2 * k))))
      (cond (is_merged code info k) (into (at code k) (at code (suc k)).dsts) (at code k))

  unfoldable pub kept_code : ℕ → List Bytecode
  kept_code k = cond (is_dropped code info k) [] (stands_for k ∷ [])

  -- what edge e adds
  unfoldable pub block_on : ℕ → List Bytecode
  block_on e = destroy_block (attr_for e) (label_for e) (target_of code e) (lost_refs e)

  unfoldable pub added_code : List Bytecode
  added_code = joins (2 * length code) block_on

  unfoldable pub transform_code : List Bytecode
  transform_code = joins (length code) kept_code ++ added_code

-- ---- the call rewrite

-- the live sets of a sheet, the code that rewriting gives it, and the sheet of that code under the old heading
abbrev pub sheet_info : List ℕ → List LiveVarInfo
sheet_info s = (analyze (code_of s) (locals_of s)).info

abbrev pub new_code : List ℕ → List Bytecode
new_code s = transform_code (code_of s) (sheet_info s) (refs_of s)

abbrev pub new_sheet : List ℕ → List ℕ
new_sheet s = sheet_of (heading_rest s) (new_code s)

-- no block is added, or the numbers behind those of all blocks are at most one above the highest
unfoldable pub numbers_fit : List Bytecode → List LiveVarInfo → ℕ → Bool
numbers_fit code info refs =
    let edges = 2 * length code in
    eqb (length (added_code code info refs)) 0 || (leb (label_for code info refs edges) (suc max_number) && leb (attr_for code info refs edges) (suc max_number))

-- the length of the new sheet and the sheet, where so many bytes are lent; 10: a new number is too high; 11: more instructions than a sheet holds
unfoldable pub rewrite_reply : List ℕ → ℕ → Reply
rewrite_reply s lent =
    reply (check_sheet s
    then lends lent max_bytes
    then check_whole NumberTooHigh (numbers_fit (code_of s) (sheet_info s) (refs_of s))
    then check_whole CodeTooLong (leb (length (new_code s)) max_instructions))
    (Done (length (new_sheet s)) (new_sheet s))
