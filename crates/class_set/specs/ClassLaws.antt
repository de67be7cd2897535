-- The checks of a class set one after the other, what live replies to a sheet with its own bytes lent, and the outputs sheet by sheet. Assumes nothing.
use Rattle.base.specs.declared.Refusal.{Refusal}
use Rattle.base.specs.declared.Refusal.TheVariants.{Length, OutputShort, FirstBlock, TooManySheets}
use Rattle.std.specs.Prelude.{◌≡◌, refl, ◌≢◌, Bool, true, false, ◌&&◌, List, [], ◌∷◌, ◌++◌, ℕ, suc, ◌+◌, ◌-◌, ◌*◌, ◌%◌, ◌≤◌, ◌<◌, eqb, leb, length, take, drop, Result, Ok, Err}
use Rattle.std.proofs.Common.{sym, ◌∙◌, subst, add-one, arith, eq-eqb, ne_eqb, le-leb, leb-true, length-take, length-drop, ap, ap₂}
use Rattle.std.proofs.Math.Bool.{and-false}
use Rattle.std.proofs.lemmas.Bool.{lt-leb}
use Rattle.base.specs.Sizes.{block_bytes, pair_bytes, max_sheets, slot_bytes, answer_numbers}
use Rattle.base.specs.Lists.{joins}
use Rattle.base.specs.Bytes.{part, u16_at}
use Rattle.base.specs.JoinLaws.{joins_long, piece_rest, piece_more}
use Rattle.base.specs.Refusals.{Verdict, Accepted, ◌then◌, lends, Reply, Done, answer_of, output_after, number_of, place_of}
use Rattle.base.specs.RefusalLaws.{then_goes, then_stops, accepted_whole, refused_whole, passed, passed_whole, lends_short, lends_enough}
use Rattle.base.specs.ReplyLaws.{reply_refused, reply_done}
use Rattle.base.specs.WriteLaws.{length_kept}
use Rattle.sheet.specs.Layout.{code_of, locals_of}
use Rattle.sheet.specs.Checks.{check_sheet}
use Rattle.sheet.specs.ValidLaws.{accepted_valid}
use Rattle.livevar_analysis.specs.Analysis.{analyze, live_bytes, live_reply}
use Rattle.livevar_analysis.specs.LiveCallLaws.{live_refused, live_done_lem, live_length}
use Rattle.class_set.specs.CutLaws.{first_from, start_first, start_next, sheet_part}
use Rattle.class_set.specs.Room.{ClassRoom}
use Rattle.class_set.specs.ClassSet.{starts_at, sheets_in, start_of, sheet_at, check_class, alone_at, slot_after, numbers_of, sets_reply, answers_reply}

-- ---- the checks of the whole

-- 1: no whole number of blocks; none; and some
pub bad_length : (n : ℕ) → n % block_bytes ≢ 0 → leb 1 n && eqb (n % block_bytes) 0 ≡ false
bad_length n h = ap (λ (b : Bool). leb 1 n && b) (ne_eqb _ _ h) ∙ and-false (leb 1 n)

pub no_length : (n : ℕ) → n ≡ 0 → leb 1 n && eqb (n % block_bytes) 0 ≡ false
no_length n e = ap (λ (b : Bool). b && eqb (n % block_bytes) 0) (lt-leb 1 n (omega arith))

pub good_length : (n : ℕ) → n ≢ 0 → n % block_bytes ≡ 0 → leb 1 n && eqb (n % block_bytes) 0 ≡ true
good_length n h e = ap₂ ◌&&◌ (le-leb 1 n (omega arith)) (eq-eqb _ _ e)

-- 16: the first block is numbered 0; and otherwise
pub first_zero : (s : List ℕ) {n : ℕ} → n ≡ u16_at s 0 → n ≡ 0 → starts_at s 0 ≡ true
unfolding starts_at
first_zero s e z = eq-eqb (u16_at s 0) 0 (sym e ∙ z)

pub first_other : (s : List ℕ) {n : ℕ} → n ≡ u16_at s 0 → n ≢ 0 → starts_at s 0 ≡ false
unfolding starts_at
first_other s e h = ne_eqb (u16_at s 0) 0 (λ z. h (e ∙ z))

module _ (s : List ℕ) (lent numbers : ℕ) where
  pub class_length : leb 1 (length s) && eqb (length s % block_bytes) 0 ≡ false → check_class s lent numbers ≡ Err Length
  unfolding check_class
  class_length e = then_stops _ (sym (refused_whole Length e))

  module _ (whole : leb 1 (length s) && eqb (length s % block_bytes) 0 ≡ true) where
    pub class_first : starts_at s 0 ≡ false → check_class s lent numbers ≡ Err FirstBlock
    unfolding check_class
    class_first e = then_goes _ (sym (accepted_whole Length whole)) ∙ then_stops _ (sym (refused_whole FirstBlock e))

    module _ (first : starts_at s 0 ≡ true) where
      pub class_many : max_sheets < sheets_in s → check_class s lent numbers ≡ Err TooManySheets
      unfolding check_class
      class_many h = then_goes _ (sym (accepted_whole Length whole)) ∙ then_goes _ (sym (accepted_whole FirstBlock first)) ∙ then_stops _ (sym (refused_whole TooManySheets (lt-leb _ _ h)))

      module _ (few : sheets_in s ≤ max_sheets) where
        open_nine : check_class s lent numbers ≡ (lends lent (slot_bytes * sheets_in s) then lends numbers (answer_numbers * sheets_in s))
        unfolding check_class
        open_nine = then_goes _ (sym (accepted_whole Length whole)) ∙ then_goes _ (sym (accepted_whole FirstBlock first)) ∙ then_goes _ (sym (accepted_whole TooManySheets (le-leb _ _ few)))

        pub class_short : lent < slot_bytes * sheets_in s → check_class s lent numbers ≡ Err OutputShort
        class_short h = open_nine ∙ then_stops _ (lends_short h)

        pub class_answers : slot_bytes * sheets_in s ≤ lent → numbers < answer_numbers * sheets_in s → check_class s lent numbers ≡ Err OutputShort
        class_answers h g = open_nine ∙ then_goes _ (lends_enough h) ∙ lends_short g

        pub class_passes : slot_bytes * sheets_in s ≤ lent → answer_numbers * sheets_in s ≤ numbers → check_class s lent numbers ≡ Accepted
        class_passes h g = open_nine ∙ then_goes _ (lends_enough h) ∙ lends_enough g

-- what they leave
pub class_room : (s : List ℕ) (lent numbers : ℕ) → check_class s lent numbers ≡ Accepted → ClassRoom s lent numbers
unfolding check_class
class_room s lent numbers e =
    let many = passed _ _ (passed _ _ (passed _ _ e).next).next in
    let nine = passed _ _ many.next in
    record { few = leb-true _ _ (passed_whole TooManySheets _ many.first); sets = leb-true _ _ (passed_whole OutputShort _ nine.first); answers = leb-true _ _ (passed_whole OutputShort _ nine.next) }

-- ---- live, where a sheet's own bytes are lent

-- what it then does with an accepted sheet
abbrev pub live_done : List ℕ → Reply
live_done x = Done (analyze (code_of x) (locals_of x)).taken (live_bytes (analyze (code_of x) (locals_of x)).info)

-- no sheet needs more
pub slot_enough : (x : List ℕ) → check_sheet x ≡ Accepted → pair_bytes * length (code_of x) ≤ slot_bytes
slot_enough x e = let v = accepted_valid x e in omega (arith, v.count, v.few)

module _ (x : List ℕ) (lent : ℕ) (room : slot_bytes ≤ lent) where
  pub alone_done : check_sheet x ≡ Accepted → live_reply x lent ≡ live_done x
  alone_done e = live_done_lem x lent e (omega (arith, slot_enough x e))

  -- refused by the checks, or done: never 9
  pub by_checks : (P : Reply → Type 0) → ((e : Refusal) → check_sheet x ≡ Err e → P (Err e)) → (check_sheet x ≡ Accepted → P (live_done x)) → P (live_reply x lent)
  by_checks P refused accepted = go (check_sheet x) refl
    where
      go : (v : Verdict) → check_sheet x ≡ v → P (live_reply x lent)
      go (Ok tt) q = subst P (sym (alone_done q)) (accepted q)
      go (Err e) q = subst P (sym (live_refused x lent q)) (refused e q)

-- it keeps the length of what is lent
pub slot_kept : (x out : List ℕ) → length out ≡ slot_bytes → length (output_after (live_reply x slot_bytes) out) ≡ slot_bytes
slot_kept x out e =
    by_checks x slot_bytes (omega arith) (λ r. length (output_after r out) ≡ slot_bytes) (λ _ _. e)
    (λ q. let size = live_length x q in
    length_kept (live_bytes (analyze (code_of x) (locals_of x)).info) out (length (live_bytes (analyze (code_of x) (locals_of x)).info)) refl (omega (arith, slot_enough x q)) ∙ e)

-- ---- sheet by sheet

abbrev pub numbers_at : List ℕ → ℕ → List ℕ
numbers_at s k = numbers_of (answer_of (alone_at s k))

pub numbers_long : (a : Result ℕ Refusal) → length (numbers_of a) ≡ answer_numbers
numbers_long (Ok _) = refl
numbers_long (Err _) = refl

module _ (s sets : List ℕ) (m : ℕ) (room : slot_bytes * m ≤ length sets) where
  pub slot_lent : (k : ℕ) → k < m → length (part sets (slot_bytes * k) slot_bytes) ≡ slot_bytes
  slot_lent k h = length-take slot_bytes (drop (slot_bytes * k) sets) ∙ (omega (arith, length-drop (slot_bytes * k) sets))

  pub slot_long : (k : ℕ) → k < m → length (slot_after s sets k) ≡ slot_bytes
  unfolding slot_after
  slot_long k h = slot_kept (sheet_at s k) (part sets (slot_bytes * k) slot_bytes) (slot_lent k h)

-- ---- one sheet a turn, the first k answered; the next one starts at block `start`

pub record Answered (s sets₀ answers₀ sets answers : List ℕ) (start k : ℕ) : Type 0 where
  pub begins : start ≡ start_of s k
  pub written : sets ≡ joins k (slot_after s sets₀) ++ drop (slot_bytes * k) sets₀
  pub numbered : answers ≡ joins k (numbers_at s) ++ drop (answer_numbers * k) answers₀

pub answered_none : (s sets answers : List ℕ) (start : ℕ) → start ≡ first_from s 0 → Answered s sets answers sets answers start 0
unfolding joins
answered_none s sets answers start e = record { begins = e ∙ sym (start_first s); written = refl; numbered = refl }

-- where the next sheet starts
pub next_is : (s : List ℕ) (start next k : ℕ) → k < sheets_in s → start ≡ start_of s k → next ≡ first_from s (start + 1) → next ≡ start_of s (suc k)
next_is s start next k h e q = q ∙ ap (λ (b : ℕ). first_from s (b + 1)) e ∙ sym (start_next s k h)

-- so much of a slice is lent
pub lent_long : (c k : ℕ) (xs : List ℕ) → c * k + c ≤ length xs → length (take (c * k + c - c * k) (drop (c * k) xs)) ≡ c
lent_long c k xs h = length-take (c * k + c - c * k) (drop (c * k) xs) ∙ (omega (arith, length-drop (c * k) xs))

module _ (s sets₀ answers₀ sets answers : List ℕ) (start next k : ℕ) (few : k < sheets_in s) (room : slot_bytes * sheets_in s ≤ length sets₀)
    (before : Answered s sets₀ answers₀ sets answers start k) (after : next ≡ start_of s (suc k)) where
  abbrev x : List ℕ
  x = part s (block_bytes * start) (block_bytes * next - block_bytes * start)

  abbrev lent : List ℕ
  lent = take (slot_bytes * k + slot_bytes - slot_bytes * k) (drop (slot_bytes * k) sets)

  slots : (j : ℕ) → j < k → length (slot_after s sets₀ j) ≡ slot_bytes
  slots j h = slot_long s sets₀ (sheets_in s) room j (omega arith)

  x_is : x ≡ sheet_at s k
  x_is = sheet_part s k start next before.begins after

  lent_is : lent ≡ part sets₀ (slot_bytes * k) slot_bytes
  lent_is =
      let size : slot_bytes * k + slot_bytes - slot_bytes * k ≡ slot_bytes = omega arith in
      ap₂ take size (piece_rest slot_bytes (slot_after s sets₀) sets₀ k slots sets before.written)

  lent_size : length lent ≡ slot_bytes
  lent_size = ap length lent_is ∙ slot_lent s sets₀ (sheets_in s) room k few

  pub answered_more : (new numbers : List ℕ) → new ≡ output_after (live_reply x (length lent)) lent → numbers ≡ numbers_of (answer_of (live_reply x (length lent)))
      → Answered s sets₀ answers₀ (take (slot_bytes * k) sets ++ (new ++ drop (slot_bytes * k + slot_bytes - slot_bytes * k) (drop (slot_bytes * k) sets)))
      (take (answer_numbers * k) answers ++ (numbers ++ drop (answer_numbers * k + answer_numbers - answer_numbers * k) (drop (answer_numbers * k) answers))) next (k + 1)
  unfolding slot_after
  answered_more new numbers e q =
      let reply_is : live_reply x (length lent) ≡ alone_at s k = ap₂ live_reply x_is lent_size in
      record {
        begins = after ∙ ap (start_of s) (sym (add-one k));
        written = piece_more slot_bytes (slot_after s sets₀) sets₀ k slots sets before.written new (e ∙ ap₂ output_after reply_is lent_is);
        numbered = piece_more answer_numbers (numbers_at s) answers₀ k (λ j h. numbers_long (answer_of (alone_at s j))) answers before.numbered numbers (q ∙ ap (λ (r : Reply). numbers_of (answer_of r)) reply_is);
      }

-- ---- the replies

module _ (s sets answers : List ℕ) {e : Refusal} (q : check_class s (length sets) (length answers) ≡ Err e) where
  pub sets_refused : sets_reply s sets (length answers) ≡ Err e
  unfolding sets_reply
  sets_refused = reply_refused _ q

  pub answers_refused : answers_reply s (length sets) (length answers) ≡ Err e
  unfolding answers_reply
  answers_refused = reply_refused _ q

module _ (s sets answers : List ℕ) (e : check_class s (length sets) (length answers) ≡ Accepted) where
  pub sets_done : sets_reply s sets (length answers) ≡ Done (sheets_in s) (joins (sheets_in s) (slot_after s sets))
  unfolding sets_reply
  sets_done = reply_done _ e

  pub answers_done : answers_reply s (length sets) (length answers) ≡ Done (sheets_in s) (joins (sheets_in s) (numbers_at s))
  unfolding answers_reply
  answers_done = reply_done _ e

  pub sets_long : length (joins (sheets_in s) (slot_after s sets)) ≡ slot_bytes * sheets_in s
  sets_long = joins_long slot_bytes (slot_after s sets) (sheets_in s) (slot_long s sets (sheets_in s) (class_room s (length sets) (length answers) e).sets)

  pub answers_long : length (joins (sheets_in s) (numbers_at s)) ≡ answer_numbers * sheets_in s
  answers_long = joins_long answer_numbers (numbers_at s) (sheets_in s) (λ k h. numbers_long (answer_of (alone_at s k)))

-- ---- the three numbers of an answer

-- of an accepted sheet: 0, 0 and the count
pub numbers_accepted : {r : Result ℕ Refusal} {v : ℕ} → Ok v ≡ r → 0 ∷ 0 ∷ v ∷ [] ≡ numbers_of r
numbers_accepted e = ap numbers_of e

-- of a refused one: its number, its place and 0
pub numbers_refused : {r : Result ℕ Refusal} {e : Refusal} → Err e ≡ r → number_of e ∷ place_of e ∷ 0 ∷ [] ≡ numbers_of r
numbers_refused q = ap numbers_of q
