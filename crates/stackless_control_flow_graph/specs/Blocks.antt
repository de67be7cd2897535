-- Where blocks start and end, their keys, and the flow table. All over the list of instructions. Assumes nothing.
use Rattle.std.specs.Prelude.{◌<◌, ◌≡◌, ℕ, zero, suc, ◌-◌, ◌*◌, Bool, true, false, cond, ◌||◌, List, [], ◌∷◌, ◌++◌, map, get_or, length}
use Rattle.base.specs.Sizes.{row_numbers}
use Rattle.base.specs.Lists.{keep, gather, any, place, firsts}
use Rattle.base.specs.Refusals.{Reply, Done, ◌then◌, lends, reply}
use Rattle.stackless_bytecode.specs.declared.Bytecode.{Bytecode}
use Rattle.stackless_bytecode.specs.Kinds.{at, is_exit, is_branch, label_of}
use Rattle.stackless_bytecode.specs.Labels.{lookup, is_named}
use Rattle.stackless_bytecode.specs.Successors.{successors}
use Rattle.sheet.specs.Layout.{code_of}
use Rattle.sheet.specs.Checks.{check_sheet}

-- ---- blocks

-- a block starts at 0, at every named Label, and behind every Branch, Jump, exit or flagged Call
unfoldable pub starts : List Bytecode → ℕ → Bool
starts code zero = true
starts code (suc k) = is_branch (at code k) || any (λ l. is_named (lookup code l)) (label_of (at code (suc k)))

-- offset o of the code is the lower of a block
pub record Start (code : List Bytecode) (o : ℕ) : Type 0 where
  pub inside : o < length code
  pub starts : starts code o ≡ true

-- the lower of each block, by offset
unfoldable pub lowers : List Bytecode → List ℕ
lowers code = keep (length code) 0 (starts code)

-- how many blocks
unfoldable pub blocks_of : List Bytecode → ℕ
blocks_of code = length (lowers code)

-- the lower of the block that k stands in
unfoldable pub lower_of : List Bytecode → ℕ → ℕ
lower_of code zero = zero
lower_of code (suc k) = elim (starts code (suc k)) [ true ↦ suc k | false ↦ lower_of code k ]

-- the last offset before a start, from k on, d further on at most
unfoldable pub up_from : List Bytecode → ℕ → ℕ → ℕ
up_from code zero k = k
up_from code (suc d) k = elim (starts code (suc k)) [ true ↦ k | false ↦ up_from code d (suc k) ]

-- the upper of the block that k stands in
unfoldable pub upper_of : List Bytecode → ℕ → ℕ
upper_of code k = up_from code (length code - suc k) k

-- ---- keys

-- the lowers in the order of their keys: blocks by offset, at each first its successors, then the block, each once
unfoldable pub keyed : List Bytecode → List ℕ
keyed code = firsts [] (gather (λ l. successors code (upper_of code l) ++ (l ∷ [])) (lowers code))

-- the key of the block at offset o, counted from 2, where the list is `keyed code`
unfoldable pub key_of : List ℕ → ℕ → ℕ
key_of ks o = suc (suc (place o ks))

-- ---- the flow table

-- lower, upper and key of the block at l, and two successor keys, 0 filling up: 1 at an exit, else those of its successors in the order of the offsets
unfoldable pub row : List Bytecode → List ℕ → ℕ → List ℕ
row code ks l =
    let u = upper_of code l in
    let next = cond (is_exit (at code u)) (1 ∷ []) (map (key_of ks) (successors code u)) in
    l ∷ u ∷ key_of ks l ∷ get_or next 0 0 ∷ get_or next 1 0 ∷ 0 ∷ []

-- six numbers for each block, by offset
unfoldable pub flow_table : List Bytecode → List ℕ
flow_table code = let ks = keyed code in gather (row code ks) (lowers code)

-- ---- the call flow: the number of blocks and the table, where so many 16-bit numbers are lent

unfoldable pub flow_reply : List ℕ → ℕ → Reply
flow_reply s lent =
    let code = code_of s in
    reply (check_sheet s then lends lent (row_numbers * blocks_of code)) (Done (blocks_of code) (flow_table code))
