-- A class set, document 02's E3: sheets laid end to end, where each starts, the checks of the whole, and the call live over each of them. Assumes nothing.
use Rattle.std.specs.Prelude.{ℕ, suc, ◌-◌, ◌*◌, ◌/◌, ◌%◌, Bool, ◌&&◌, List, [], ◌∷◌, eqb, leb, length, get_or, Result, Ok, Err}
use Rattle.base.specs.declared.Refusal.{Refusal}
use Rattle.base.specs.declared.Refusal.TheVariants.{FirstBlock, Length, TooManySheets}
use Rattle.std.specs.List.{filter, range_with_len}
use Rattle.base.specs.Sizes.{block_bytes, max_sheets, slot_bytes, answer_numbers}
use Rattle.base.specs.Lists.{joins}
use Rattle.base.specs.Bytes.{part, u16_at}
use Rattle.base.specs.Refusals.{Verdict, check_whole, ◌then◌, lends, Reply, Done, reply, answer_of, output_after, number_of, place_of}
use Rattle.livevar_analysis.specs.Analysis.{live_reply}

-- ---- the cut

-- the whole blocks of a class set
abbrev pub blocks_in : List ℕ → ℕ
blocks_in s = length s / block_bytes

-- block b is numbered 0
unfoldable pub starts_at : List ℕ → ℕ → Bool
starts_at s b = eqb (u16_at s (block_bytes * b)) 0

-- a sheet starts at each of these blocks
unfoldable pub starts_of : List ℕ → List ℕ
starts_of s = filter (starts_at s) (range_with_len 0 (blocks_in s))

-- how many sheets there are
abbrev pub sheets_in : List ℕ → ℕ
sheets_in s = length (starts_of s)

-- the block at which sheet k starts; behind the last sheet the end
abbrev pub start_of : List ℕ → ℕ → ℕ
start_of s k = get_or (starts_of s) k (blocks_in s)

-- sheet k: the blocks from its start up to the next one's
unfoldable pub sheet_at : List ℕ → ℕ → List ℕ
sheet_at s k = part s (block_bytes * start_of s k) (block_bytes * (start_of s (suc k) - start_of s k))

-- ---- the checks of the whole

-- 1, 16, 17, and 9 for either output, where so many bytes and so many numbers are lent
unfoldable pub check_class : List ℕ → ℕ → ℕ → Verdict
check_class s lent numbers =
    check_whole Length (leb 1 (length s) && eqb (length s % block_bytes) 0)
    then check_whole FirstBlock (starts_at s 0)
    then check_whole TooManySheets (leb (sheets_in s) max_sheets)
    then lends lent (slot_bytes * sheets_in s)
    then lends numbers (answer_numbers * sheets_in s)

-- ---- each sheet

-- what live replies to sheet k alone, where its own bytes are lent
abbrev pub alone_at : List ℕ → ℕ → Reply
alone_at s k = live_reply (sheet_at s k) slot_bytes

-- what these bytes of `sets` then hold
unfoldable pub slot_after : List ℕ → List ℕ → ℕ → List ℕ
slot_after s sets k = output_after (alone_at s k) (part sets (slot_bytes * k) slot_bytes)

-- an answer in three numbers: 0, 0 and the count; or number, place and 0, if refused
abbrev pub numbers_of : Result ℕ Refusal → List ℕ
numbers_of (Ok count) = 0 ∷ 0 ∷ count ∷ []
numbers_of (Err e) = number_of e ∷ place_of e ∷ 0 ∷ []

-- ---- the call: the number of sheets

-- and what `sets` then holds: the bytes of each sheet, one behind the other
unfoldable pub sets_reply : List ℕ → List ℕ → ℕ → Reply
sets_reply s sets numbers = reply (check_class s (length sets) numbers) (Done (sheets_in s) (joins (sheets_in s) (slot_after s sets)))

-- and `answers`: the three numbers of each
unfoldable pub answers_reply : List ℕ → ℕ → ℕ → Reply
answers_reply s lent numbers = reply (check_class s lent numbers) (Done (sheets_in s) (joins (sheets_in s) (λ k. numbers_of (answer_of (alone_at s k)))))
