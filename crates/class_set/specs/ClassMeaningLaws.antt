-- What the outputs of a class set say of each sheet; the same sheet at the same place of two class sets. Assumes nothing.
use Rattle.std.specs.Prelude.{◌≡◌, refl, ℕ, ◌+◌, ◌*◌, ◌≤◌, ◌<◌, length, drop, List, [], ◌∷◌, ◌++◌, get_or, Ok, Err}
use Rattle.std.proofs.Common.{sym, ◌∙◌, subst, add-zero, arith, get_or-take, get_or-drop, ap}
use Rattle.std.proofs.Math.ListN.{get_or-append}
use Rattle.base.specs.Sizes.{pair_bytes, slot_bytes, answer_numbers}
use Rattle.base.specs.Lists.{joins}
use Rattle.base.specs.Bytes.{part}
use Rattle.base.specs.JoinLaws.{get_d_rest, piece_at, piece_behind}
use Rattle.base.specs.declared.Refusal.{Refusal}
use Rattle.base.specs.Refusals.{Accepted, Reply, number_of, place_of, answer_of, output_after}
use Rattle.base.specs.ReplyLaws.{done_result, done_output}
use Rattle.sheet.specs.Layout.{code_of, locals_of}
use Rattle.sheet.specs.Checks.{check_sheet}
use Rattle.sheet.specs.CheckLaws.{own_number}
use Rattle.livevar_analysis.specs.Analysis.{analyze, live_bytes, live_reply}
use Rattle.livevar_analysis.specs.LiveCall.{LeastLive, TakenUntilEmpty}
use Rattle.livevar_analysis.specs.LiveCallLaws.{live_refused, live_length, least_live}
use Rattle.livevar_analysis.specs.Term3Laws.{term3}
use Rattle.class_set.specs.ClassSet.{sheets_in, sheet_at, check_class, alone_at, slot_after, numbers_of, sets_reply, answers_reply}
use Rattle.class_set.specs.ClassMeaning.{number_at, slot_of, byte_at, RefusedAt, AcceptedAt, ClassMeaning, SameAnswer}
use Rattle.class_set.specs.ClassLaws.{class_room, slot_enough, alone_done, by_checks, numbers_at, numbers_long, slot_long, sets_done, answers_done, sets_long, answers_long}

-- a sheet's reply does not depend on how much is lent, if it is no less than its own bytes
alone_same : (x : List ℕ) (lent : ℕ) → slot_bytes ≤ lent → live_reply x slot_bytes ≡ live_reply x lent
alone_same x lent h =
    by_checks x slot_bytes (omega arith) (λ r. r ≡ live_reply x lent) (λ _ q. sym (live_refused x lent q)) (λ e. sym (alone_done x lent h e))

module _ (s sets answers : List ℕ) (accepted : check_class s (length sets) (length answers) ≡ Accepted) where
  -- ---- the outputs, piece by piece

  abbrev sets_now : List ℕ
  sets_now = joins (sheets_in s) (slot_after s sets) ++ drop (slot_bytes * sheets_in s) sets

  abbrev answers_now : List ℕ
  answers_now = joins (sheets_in s) (numbers_at s) ++ drop (answer_numbers * sheets_in s) answers

  slots : (k : ℕ) → k < sheets_in s → length (slot_after s sets k) ≡ slot_bytes
  slots = slot_long s sets (sheets_in s) (class_room s (length sets) (length answers) accepted).sets

  module _ (k : ℕ) (h : k < sheets_in s) where
    abbrev x : List ℕ
    x = sheet_at s k

    abbrev lent : List ℕ
    lent = part sets (slot_bytes * k) slot_bytes

    slot_is : slot_of sets_now k ≡ slot_after s sets k
    slot_is = piece_at slot_bytes (slot_after s sets) (sheets_in s) k _ h slots

    numbers_are : part answers_now (answer_numbers * k) answer_numbers ≡ numbers_at s k
    numbers_are = piece_at answer_numbers (numbers_at s) (sheets_in s) k _ h (λ j l. numbers_long (answer_of (alone_at s j)))

    number_is : (j : ℕ) → j < answer_numbers → get_or answers_now (answer_numbers * k + j) 0 ≡ get_or (numbers_at s k) j 0
    number_is j l = sym (get_or-take answer_numbers (drop (answer_numbers * k) answers_now) j 0 l ∙ get_or-drop (answer_numbers * k) answers_now j 0) ∙ ap (λ (a : List ℕ). get_or a j 0) numbers_are

    first_is : number_at answers_now k ≡ get_or (numbers_at s k) 0 0
    first_is = ap (λ (i : ℕ). get_or answers_now i 0) (sym (add-zero (answer_numbers * k))) ∙ number_is 0 (omega arith)

    byte_of : (out : List ℕ) (i : ℕ) → i < slot_bytes → byte_at out k i ≡ get_or (slot_of out k) i 0
    byte_of out i l = sym (get_or-take slot_bytes (drop (slot_bytes * k) out) i 0 l ∙ get_or-drop (slot_bytes * k) out i 0)

    byte_is : (i : ℕ) → i < slot_bytes → byte_at sets_now k i ≡ get_or (slot_after s sets k) i 0
    byte_is i l = byte_of sets_now i l ∙ ap (λ (a : List ℕ). get_or a i 0) slot_is

    -- ---- a refused sheet

    module _ (e : Refusal) (q : check_sheet x ≡ Err e) where
      refused_numbers : (j : ℕ) → get_or (number_of e ∷ place_of e ∷ 0 ∷ []) j 0 ≡ get_or (numbers_at s k) j 0
      refused_numbers j = ap (λ (r : Reply). get_or (numbers_of (answer_of r)) j 0) (sym (live_refused x slot_bytes q))

      refused_slot : slot_after s sets k ≡ lent
      unfolding slot_after
      refused_slot = ap (λ (r : Reply). output_after r lent) (live_refused x slot_bytes q)

      refused_at : RefusedAt e k sets sets_now answers_now
      refused_at = record {
        number = first_is ∙ sym (refused_numbers 0);
        place = number_is 1 (omega arith) ∙ sym (refused_numbers 1);
        count = number_is 2 (omega arith) ∙ sym (refused_numbers 2);
        kept = λ i l. byte_is i l ∙ ap (λ (a : List ℕ). get_or a i 0) refused_slot ∙ sym (byte_of sets i l);
      }

    -- ---- an accepted one

    module _ (e : check_sheet x ≡ Accepted) where
      abbrev bytes : List ℕ
      bytes = live_bytes (analyze (code_of x) (locals_of x)).info

      accepted_numbers : (j : ℕ) → get_or (0 ∷ 0 ∷ (analyze (code_of x) (locals_of x)).taken ∷ []) j 0 ≡ get_or (numbers_at s k) j 0
      accepted_numbers j = ap (λ (r : Reply). get_or (numbers_of (answer_of r)) j 0) (sym (alone_done x slot_bytes (omega arith) e))

      accepted_slot : slot_after s sets k ≡ bytes ++ drop (length bytes) lent
      unfolding slot_after
      accepted_slot = ap (λ (r : Reply). output_after r lent) (alone_done x slot_bytes (omega arith) e)

      accepted_at : AcceptedAt x k sets sets_now answers_now
      accepted_at = record {
        number = first_is ∙ sym (accepted_numbers 0);
        place = number_is 1 (omega arith) ∙ sym (accepted_numbers 1);
        least = subst (LeastLive x) (sym (slot_is ∙ accepted_slot)) (least_live x e (drop (length bytes) lent));
        counted = subst (TakenUntilEmpty x) (accepted_numbers 2 ∙ sym (number_is 2 (omega arith))) (term3 x e).taken;
        kept = λ i a l. byte_is i l ∙ ap (λ (b : List ℕ). get_or b i 0) accepted_slot ∙ get_d_rest bytes lent (length bytes) refl i (omega (arith, live_length x e)) ∙ sym (byte_of sets i l);
      }

      written_byte : (i : ℕ) → i < pair_bytes * length (code_of x) → byte_at sets_now k i ≡ get_or bytes i 0
      written_byte i l =
          let long = live_length x e in
          byte_is i (omega (arith, slot_enough x e)) ∙ ap (λ (b : List ℕ). get_or b i 0) accepted_slot ∙ get_or-append bytes (drop (length bytes) lent) 0 i (omega arith)

    never_nine : number_at answers_now k ≡ 9 → ⊥
    never_nine q =
        by_checks x slot_bytes (omega arith) (λ r. ⊥) (λ e r. ((own_number x).each r).1 (sym (refused_at e r).number ∙ q)) (λ e. omega (arith, (accepted_at e).number))

  pub class_meaning : ClassMeaning s sets answers sets_now answers_now
  class_meaning = record {
    alone_numbers = λ k lent h l. numbers_are k h ∙ ap (λ (r : Reply). numbers_of (answer_of r)) (alone_same (sheet_at s k) lent l);
    never_short = never_nine;
    alone_sets = λ k h. slot_is k h ∙ (unfold slot_after in refl);
    refused = λ k e h q. refused_at k h e q;
    accepted = λ k h e. accepted_at k h e;
    sets_behind = piece_behind slot_bytes (slot_after s sets) sets (sheets_in s) slots;
    answers_behind = piece_behind answer_numbers (numbers_at s) answers (sheets_in s) (λ j l. numbers_long (answer_of (alone_at s j)));
  }

  -- the outputs of the definition
  pub sets_now_lem : output_after (sets_reply s sets (length answers)) sets ≡ sets_now
  sets_now_lem = sym (done_output sets (sets_long s sets answers accepted) (sets_done s sets answers accepted) refl)

  pub answers_now_lem : output_after (answers_reply s (length sets) (length answers)) answers ≡ answers_now
  answers_now_lem = sym (done_output answers (answers_long s sets answers accepted) (answers_done s sets answers accepted) refl)

-- ---- the call, where it is not refused

pub record ClassDone (s sets answers sets' answers' : List ℕ) (m : ℕ) : Type 0 where
  pub result : Ok m ≡ answer_of (sets_reply s sets (length answers))
  pub written : sets' ≡ output_after (sets_reply s sets (length answers)) sets
  pub answered : answers' ≡ output_after (answers_reply s (length sets) (length answers)) answers
  pub means : ClassMeaning s sets answers sets' answers'

pub class_done : (s sets answers sets' answers' : List ℕ) (m : ℕ) → check_class s (length sets) (length answers) ≡ Accepted → m ≡ sheets_in s
    → sets' ≡ joins m (slot_after s sets) ++ drop (slot_bytes * m) sets → answers' ≡ joins m (numbers_at s) ++ drop (answer_numbers * m) answers → ClassDone s sets answers sets' answers' m
class_done s sets answers sets' answers' m e is w n =
    let p : sets' ≡ joins (sheets_in s) (slot_after s sets) ++ drop (slot_bytes * sheets_in s) sets = w ∙ ap (λ (c : ℕ). joins c (slot_after s sets) ++ drop (slot_bytes * c) sets) is in
    let q : answers' ≡ joins (sheets_in s) (numbers_at s) ++ drop (answer_numbers * sheets_in s) answers = n ∙ ap (λ (c : ℕ). joins c (numbers_at s) ++ drop (answer_numbers * c) answers) is in
    record {
      result = done_result is (sets_done s sets answers e);
      written = p ∙ sym (sets_now_lem s sets answers e);
      answered = q ∙ sym (answers_now_lem s sets answers e);
      means = rw (p, q) (class_meaning s sets answers e);
    }

-- the same sheet at the same place of two class sets that are not refused: whatever the other sheets, and whatever was lent
pub same_sheet : (s₁ sets₁ answers₁ s₂ sets₂ answers₂ : List ℕ) → check_class s₁ (length sets₁) (length answers₁) ≡ Accepted → check_class s₂ (length sets₂) (length answers₂) ≡ Accepted
    → (k : ℕ) → k < sheets_in s₁ → k < sheets_in s₂ → sheet_at s₁ k ≡ sheet_at s₂ k
    → SameAnswer (sheet_at s₁ k) k (output_after (sets_reply s₁ sets₁ (length answers₁)) sets₁) (output_after (answers_reply s₁ (length sets₁) (length answers₁)) answers₁)
    (output_after (sets_reply s₂ sets₂ (length answers₂)) sets₂) (output_after (answers_reply s₂ (length sets₂) (length answers₂)) answers₂)
same_sheet s₁ sets₁ answers₁ s₂ sets₂ answers₂ a₁ a₂ k h₁ h₂ q =
    rw (sets_now_lem s₁ sets₁ answers₁ a₁, sets_now_lem s₂ sets₂ answers₂ a₂, answers_now_lem s₁ sets₁ answers₁ a₁, answers_now_lem s₂ sets₂ answers₂ a₂)
    (record {
      numbers = numbers_are s₁ sets₁ answers₁ a₁ k h₁ ∙ ap (λ (x : List ℕ). numbers_of (answer_of (live_reply x slot_bytes))) q ∙ sym (numbers_are s₂ sets₂ answers₂ a₂ k h₂);
      bytes = λ e i l. written_byte s₁ sets₁ answers₁ a₁ k h₁ e i l ∙ ap (λ (x : List ℕ). get_or (live_bytes (analyze (code_of x) (locals_of x)).info) i 0) q
          ∙ sym (written_byte s₂ sets₂ answers₂ a₂ k h₂ (sym (ap check_sheet q) ∙ e) i (omega (arith, ap (λ (x : List ℕ). pair_bytes * length (code_of x)) q)));
    })
