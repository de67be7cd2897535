-- What a class set that is not refused means for each of its sheets, byte by byte and number by number; and which sheets are cut as they were laid. Assumes nothing.
use Rattle.std.specs.Prelude.{◌≡◌, true, false, List, ℕ, ◌+◌, ◌*◌, ◌≤◌, ◌<◌, length, get_or, Err}
use Rattle.base.specs.Sizes.{pair_bytes, block_bytes, slot_bytes, answer_numbers}
use Rattle.base.specs.Lists.{joins}
use Rattle.base.specs.Bytes.{part}
use Rattle.base.specs.declared.Refusal.{Refusal}
use Rattle.base.specs.Refusals.{Accepted, number_of, place_of, answer_of, output_after}
use Rattle.sheet.specs.Layout.{code_of}
use Rattle.sheet.specs.Checks.{check_sheet}
use Rattle.livevar_analysis.specs.Analysis.{live_reply}
use Rattle.livevar_analysis.specs.LiveCall.{LeastLive, TakenUntilEmpty}
use Rattle.class_set.specs.ClassSet.{starts_at, sheets_in, sheet_at, numbers_of}

-- ---- what the outputs hold of sheet k

-- its number, its place and its count
abbrev pub number_at : List ℕ → ℕ → ℕ
number_at answers k = get_or answers (answer_numbers * k) 0

abbrev pub place_at : List ℕ → ℕ → ℕ
place_at answers k = get_or answers (answer_numbers * k + 1) 0

abbrev pub count_at : List ℕ → ℕ → ℕ
count_at answers k = get_or answers (answer_numbers * k + 2) 0

-- its bytes, and one of them
abbrev pub slot_of : List ℕ → ℕ → List ℕ
slot_of sets k = part sets (slot_bytes * k) slot_bytes

abbrev pub byte_at : List ℕ → ℕ → ℕ → ℕ
byte_at sets k i = get_or sets (slot_bytes * k + i) 0

-- ---- one sheet: `sets` is what was lent, sets' and answers' what the call leaves

-- sheet k is refused: number and place, count 0, and its bytes as they were
pub record RefusedAt (e : Refusal) (k : ℕ) (sets sets' answers' : List ℕ) : Type 0 where
  pub number : number_at answers' k ≡ number_of e
  pub place : place_at answers' k ≡ place_of e
  pub count : count_at answers' k ≡ 0
  pub kept : (i : ℕ) → i < slot_bytes → byte_at sets' k i ≡ byte_at sets k i

-- sheet k, x, is accepted: 0, 0 and its count, term 3 of its bytes, and those past 16n as they were
pub record AcceptedAt (x : List ℕ) (k : ℕ) (sets sets' answers' : List ℕ) : Type 0 where
  pub number : number_at answers' k ≡ 0
  pub place : place_at answers' k ≡ 0
  pub least : LeastLive x (slot_of sets' k)
  pub counted : TakenUntilEmpty x (count_at answers' k)
  pub kept : (i : ℕ) → pair_bytes * length (code_of x) ≤ i → i < slot_bytes → byte_at sets' k i ≡ byte_at sets k i

-- ---- the whole

-- what s, which is not refused, means
pub record ClassMeaning (s sets answers sets' answers' : List ℕ) : Type 0 where
  -- each sheet's numbers are those that it gets alone, however many bytes are lent to it, if they are no fewer than its own; 9 is never among them
  pub alone_numbers : (k lent : ℕ) → k < sheets_in s → slot_bytes ≤ lent → part answers' (answer_numbers * k) answer_numbers ≡ numbers_of (answer_of (live_reply (sheet_at s k) lent))
  pub never_short : (k : ℕ) → k < sheets_in s → number_at answers' k ≡ 9 → ⊥
  -- its bytes are what the call live alone leaves in them
  pub alone_sets : (k : ℕ) → k < sheets_in s → slot_of sets' k ≡ output_after (live_reply (sheet_at s k) slot_bytes) (slot_of sets k)
  -- each is refused or accepted by its own checks, whatever the others are
  pub refused : (k : ℕ) (e : Refusal) → k < sheets_in s → check_sheet (sheet_at s k) ≡ Err e → RefusedAt e k sets sets' answers'
  pub accepted : (k : ℕ) → k < sheets_in s → check_sheet (sheet_at s k) ≡ Accepted → AcceptedAt (sheet_at s k) k sets sets' answers'
  -- behind the last sheet's, bytes and numbers are as they were
  pub sets_behind : (i : ℕ) → slot_bytes * sheets_in s ≤ i → get_or sets' i 0 ≡ get_or sets i 0
  pub answers_behind : (i : ℕ) → answer_numbers * sheets_in s ≤ i → get_or answers' i 0 ≡ get_or answers i 0

-- ---- the same sheet at the same place of two class sets

-- x, sheet k of both: the same numbers, and if accepted the same 16n bytes
pub record SameAnswer (x : List ℕ) (k : ℕ) (sets₁ answers₁ sets₂ answers₂ : List ℕ) : Type 0 where
  pub numbers : part answers₁ (answer_numbers * k) answer_numbers ≡ part answers₂ (answer_numbers * k) answer_numbers
  pub bytes : check_sheet x ≡ Accepted → (i : ℕ) → i < pair_bytes * length (code_of x) → byte_at sets₁ k i ≡ byte_at sets₂ k i

-- ---- which sheets are cut as they were laid

-- x has whole blocks, of which the first and no other is numbered 0
pub record OneSheet (x : List ℕ) : Type 0 where
  pub blocks : ℕ
  pub size : length x ≡ block_bytes * blocks
  pub some : 0 < blocks
  pub first : starts_at x 0 ≡ true
  pub later : (b : ℕ) → 0 < b → b < blocks → starts_at x b ≡ false

-- f 0, f 1, .. laid end to end, m of them, are cut as they were laid
pub record CutAsLaid (m : ℕ) (f : ℕ → List ℕ) : Type 0 where
  pub count : sheets_in (joins m f) ≡ m
  pub sheet : (k : ℕ) → k < m → sheet_at (joins m f) k ≡ f k
