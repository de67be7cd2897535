-- A call's contract and a comparison together say whether the call answers as it is stored. Assumes nothing.
use Rattle.std.specs.Prelude.{ℕ, ◌≤◌, ◌≡◌, ◌↔◌, Bool, false, IsTrue, List, ◌++◌, eqb, length, take, drop}
use Rattle.std.proofs.Common.{arith, sym, ap, ap₂, ◌∙◌, length-take-le, eqb-true, eq-eqb}
use Rattle.base.specs.Refusals.{Reply, answer_of, output_after}
use Rattle.class_set.specs.ClassSet.{sets_reply, answers_reply}
use Rattle.c_api.specs.Packed.{packed}
use Rattle.agreement.specs.Agree.{SameResult, Agrees, AgreesClass, after}

-- a call replies with `got`, and the results are compared
pub answered : (r : Reply) (got result : ℕ) → got ≡ packed (answer_of r) → (IsTrue (eqb got result) ↔ SameResult r result)
answered r got result is = (λ t. sym is ∙ eqb-true got result t, λ a. eq-eqb got result (is ∙ a))

-- a call is lent the front of `out`, replies with `got` and leaves `last` there; b compares both
pub agreed : (f : ℕ → Reply) (lent result got : ℕ) (out last want : List ℕ) (b : Bool) → lent ≤ length out
    → got ≡ packed (answer_of (f (length (take lent out)))) → last ≡ output_after (f (length (take lent out))) (take lent out)
    → (IsTrue b ↔ ((got ≡ result) × (last ++ drop lent out ≡ want)))
    → (IsTrue b ↔ Agrees (f lent) lent result out want)
agreed f lent result got out last want b h is kept says =
    let e : length (take lent out) ≡ lent = length-take-le lent out h in
    let a : packed (answer_of (f lent)) ≡ got = ap (λ (n : ℕ). packed (answer_of (f n))) (sym e) ∙ sym is in
    let o : after (f lent) lent out ≡ last ++ drop lent out =
    ap (λ (n : ℕ). output_after (f n) (take lent out) ++ drop lent out) (sym e) ∙ ap (λ (l : List ℕ). l ++ drop lent out) (sym kept) in
    (λ t. record { answer = a ∙ (says.0 t).0; output = o ∙ (says.0 t).1 }, λ w. says.1 (sym a ∙ w.answer, sym o ∙ w.output))

-- a class set: b compares the result and the sets, d the answers
module _ (s : List ℕ) (lent numbers result got : ℕ) (sets last answers left want numbered : List ℕ) (room : lent ≤ length sets) (more : numbers ≤ length answers)
    (is : got ≡ packed (answer_of (sets_reply s (take lent sets) (length (take numbers answers)))))
    (kept : last ≡ output_after (sets_reply s (take lent sets) (length (take numbers answers))) (take lent sets))
    (filled : left ≡ output_after (answers_reply s (length (take lent sets)) (length (take numbers answers))) (take numbers answers)) where
  enough : length (take numbers answers) ≡ numbers
  enough = length-take-le numbers answers more

  same_answer : packed (answer_of (sets_reply s (take lent sets) numbers)) ≡ got
  same_answer = ap (λ (n : ℕ). packed (answer_of (sets_reply s (take lent sets) n))) (sym enough) ∙ sym is

  same_sets : after (sets_reply s (take lent sets) numbers) lent sets ≡ last ++ drop lent sets
  same_sets = ap (λ (n : ℕ). output_after (sets_reply s (take lent sets) n) (take lent sets) ++ drop lent sets) (sym enough) ∙ ap (λ (l : List ℕ). l ++ drop lent sets) (sym kept)

  same_numbers : after (answers_reply s lent numbers) numbers answers ≡ left ++ drop numbers answers
  same_numbers =
      ap₂ (λ (m n : ℕ). output_after (answers_reply s m n) (take numbers answers) ++ drop numbers answers) (sym (length-take-le lent sets room)) (sym enough)
      ∙ ap (λ (l : List ℕ). l ++ drop numbers answers) (sym filled)

  pub class_agreed : (b : Bool) → left ++ drop numbers answers ≡ numbered → (IsTrue b ↔ ((got ≡ result) × (last ++ drop lent sets ≡ want))) → (IsTrue b ↔ AgreesClass s lent numbers result sets answers want numbered)
  class_agreed b q says =
      (λ t. record { answer = same_answer ∙ (says.0 t).0; output = same_sets ∙ (says.0 t).1; answered = same_numbers ∙ q }, λ w. says.1 (sym same_answer ∙ w.answer, sym same_sets ∙ w.output))

  -- the answers differ
  pub class_other : (left ++ drop numbers answers ≡ numbered → ⊥) → (IsTrue false ↔ AgreesClass s lent numbers result sets answers want numbered)
  class_other h = (λ e. absurd (let z : ◌≡◌ {A = ℕ} 0 1 = cc in omega arith), λ w. absurd (h (sym same_numbers ∙ w.answered)))
