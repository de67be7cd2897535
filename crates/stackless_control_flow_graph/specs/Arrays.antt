-- What the arrays hold that the blocks are worked out in. Assumes nothing.
--
--   array         indexed by                          holds
--   targets       offset, two places each             the offsets of the labels that the instruction names
--   goes          offset                              its successors
--   marks         offset                              whether a block starts there
--   lowers        block, by offset                    its lower
--   uppers        offset                              the upper of its block
--   keys          offset                              in a Numbering, one more than the key of the block that starts there; in an array that is lent
--                                                     (edges_of, rows_of, spread_in, Reach), that key itself; 0 where none starts
--   lower_of_key  key, less 2                         the lower of its block
--   upper_of_key  key, less 2                         the upper of its block (Graph)
--   key_of_offset offset                              the key of its block (Graph)
--   slots         key, two places each                the keys of its successors (Sorting)
--   first_edge    key                                 where its part of edges starts; the next key's start ends it (Sorting)
--   edges         first_edge                          what the key leads to backward (Sorting)
--   table         block by offset, six places each    its row of the flow table
use Rattle.std.specs.Prelude.{◌≡◌, Bool, true, false, cond, ℕ, suc, ◌+◌, ◌*◌, ◌≤◌, ◌<◌, eqb, get_or, set, length, take, List, [], ◌∷◌, ◌++◌, map, unwrap_or}
use mathlib.Core.List.{Memᴰ}
use Rattle.base.specs.Lists.{keep, over}
use Rattle.base.specs.Sizes.{record_bytes, max_instructions}
use Rattle.base.specs.Numbering.{number_of}
use Rattle.stackless_bytecode.specs.declared.Bytecode.{Bytecode}
use Rattle.stackless_bytecode.specs.Kinds.{at, is_exit, is_branch, falls_through, branch_dests}
use Rattle.stackless_bytecode.specs.Successors.{ascending, successors}
use Rattle.sheet.specs.Layout.{instruction_at, record_start}
use Rattle.stackless_control_flow_graph.specs.declared.Successors.{Successors}
use Rattle.stackless_control_flow_graph.specs.Blocks.{starts, lowers, upper_of, keyed, key_of}

-- ---- the successors of an offset

-- none, one or two offsets, or their keys, by value
abbrev pub offsets_of : Successors → List ℕ
offsets_of Successors.None = []
offsets_of (Successors.One a) = a ∷ []
offsets_of (Successors.Two a b) = a ∷ b ∷ []

-- the successors of an instruction whose labels stand at `one` and `two`, and behind which `next` stands
unfoldable pub succs_by : Bytecode → ℕ → ℕ → ℕ → List ℕ
succs_by r one two next = ascending (take (length (branch_dests r)) (one ∷ two ∷ []) ++ cond (falls_through r) (next ∷ []) [])

-- ---- arrays by offset

-- those of offset k
abbrev pub succs_in : List Successors → ℕ → List ℕ
succs_in goes k = offsets_of (get_or goes k Successors.None)

-- each of these offsets marked
unfoldable pub mark_all : List Bool → List ℕ → List Bool
mark_all marks xs = over (λ m x. set m x true) marks xs

-- each is below n
pub record Within (n : ℕ) (xs : List ℕ) : Type 0 where
  pub each : (x : ℕ) → Memᴰ x xs → x < n

-- the successors of each offset below k
pub record SuccessorsTo (code : List Bytecode) (k : ℕ) (goes : List Successors) : Type 0 where
  pub each : (j : ℕ) → j < k → succs_in goes j ≡ successors code j

-- marked where a block starts
pub record Marked (code : List Bytecode) (marks : List Bool) : Type 0 where
  pub each : (k : ℕ) → k < length code → get_or marks k false ≡ starts code k

-- the offsets below n that are marked
unfoldable pub marked_in : List Bool → ℕ → List ℕ
marked_in marks n = keep n 0 (λ k. get_or marks k false)

-- marks out of bytes: 1 is marked, and no other byte is
abbrev pub marks_of : List ℕ → List Bool
marks_of bytes = map (λ b. eqb b 1) bytes

-- the upper of the block of each offset
pub record Uppers (code : List Bytecode) (uppers : List ℕ) : Type 0 where
  pub each : (k : ℕ) → k < length code → get_or uppers k 0 ≡ upper_of code k

-- the arrays of all blocks: the successors of each offset, the lowers by offset, and the upper of each offset
pub record BlocksFound (code : List Bytecode) (goes : List Successors) (ls uppers : List ℕ) : Type 0 where
  pub going : SuccessorsTo code (length code) goes
  pub places : length code ≤ length goes
  pub lower : ls ≡ lowers code
  pub upper : Uppers code uppers
  pub offsets : length code ≤ length uppers

-- ---- keys

-- the key of the block that starts at o, where these lowers have keys; 0 where none does
abbrev pub key_in : List ℕ → ℕ → ℕ
key_in lowers o = unwrap_or (number_of 2 lowers o) 0

-- the keys of the blocks that the block from l on goes to
abbrev pub next_keys : List Bytecode → ℕ → List ℕ
next_keys code l = map (key_of (keyed code)) (successors code (upper_of code l))

-- ---- blocks in arrays of any code: lowers, the upper of each offset, and the key of each lower by offset

-- block b of the arrays is that from l to u
pub record BlockAt (ls uppers : List ℕ) (b l u : ℕ) : Type 0 where
  pub lower : l ≡ get_or ls b 0
  pub upper : u ≡ get_or uppers (get_or ls b 0) 0

-- the arrays have all that is asked of the blocks that start at these lowers, and their offsets are below n
pub record Reach (goes : List Successors) (ls uppers : List ℕ) (n : ℕ) : Type 0 where
  pub lower : (b : ℕ) → b < length ls → get_or ls b 0 < n
  pub upper : (b : ℕ) → b < length ls → get_or ls b 0 < length uppers
  pub place : (b : ℕ) → b < length ls → get_or uppers (get_or ls b 0) 0 < length goes
  pub within : (b : ℕ) → b < length ls → Within n (succs_in goes (get_or uppers (get_or ls b 0) 0))

-- the keys of the successors of offset u
abbrev pub succ_keys_in : List ℕ → List Successors → ℕ → List ℕ
succ_keys_in keys goes u = map (λ o. get_or keys o 0) (succs_in goes u)

-- offset k has a record in the sheet
pub record HasRecord (s : List ℕ) (k : ℕ) : Type 0 where
  pub ends : record_start k + record_bytes ≤ length s
  pub few : k < 2 * max_instructions

-- the successor keys of the block that ends at u: 1 at an exit, else those of its successors
unfoldable pub next_keys_in : List ℕ → List Successors → List ℕ → ℕ → List ℕ
next_keys_in s goes keys u = cond (is_exit (instruction_at s u)) (1 ∷ []) (succ_keys_in keys goes u)

-- the six numbers of the block from l to u
unfoldable pub row_from : List ℕ → List Successors → List ℕ → ℕ → ℕ → List ℕ
row_from s goes keys l u = let next = next_keys_in s goes keys u in l ∷ u ∷ get_or keys l 0 ∷ get_or next 0 0 ∷ get_or next 1 0 ∷ 0 ∷ []

-- of the block from l on
abbrev pub row_in : List ℕ → List Successors → List ℕ → List ℕ → ℕ → List ℕ
row_in s goes uppers keys l = row_from s goes keys l (get_or uppers l 0)

-- ---- the pass over the instructions

-- what is marked once the first k instructions are visited
pub record Marking (code : List Bytecode) (k : ℕ) (marks : List Bool) : Type 0 where
  pub sound : (j : ℕ) → j < length code → get_or marks j false ≡ true → starts code j ≡ true
  pub entry : get_or marks 0 false ≡ true
  pub behind : (j : ℕ) → j < k → suc j < length code → is_branch (at code j) ≡ true → get_or marks (suc j) false ≡ true
  pub named : (j o : ℕ) → j < k → is_branch (at code j) ≡ true → Memᴰ o (successors code j) → get_or marks o false ≡ true

-- what a step of the pass over the instructions does to both arrays
pub record Visits (code : List Bytecode) (k : ℕ) (goes : List Successors) (marks : List Bool) (goes' : List Successors) (marks' : List Bool) : Type 0 where
  pub going : SuccessorsTo code k goes → SuccessorsTo code (k + 1) goes'
  pub marking : Marking code k marks → Marking code (k + 1) marks'
