-- Checks 18 and 5 to 8 of a sheet that is in shape, and the answers of checks 6 to 8. Assumes nothing.
use Rattle.std.specs.Prelude.{◌≡◌, Bool, true, false, not, List, ℕ, ◌-◌, length, take, drop, Option, None, Some, Result, Ok, Err}
use Rattle.std.proofs.Common.{sym, ap, ◌∙◌, subst, arith}
use Rattle.base.specs.Lists.{first_bad}
use Rattle.base.specs.declared.Refusal.TheVariants.{LabelRepeated, LabelUndefined, FallsThrough, FlaggedStop, Local}
use Rattle.base.specs.Refusals.{Verdict, Accepted, check, ◌then◌}
use Rattle.base.specs.RefusalLaws.{never, then_goes, then_stops, then_assoc, accepted_none, refused_at}
use Rattle.stackless_bytecode.specs.declared.Bytecode.{Bytecode}
use Rattle.stackless_bytecode.specs.Kinds.{at, stop_ok, falls_through}
use Rattle.std.specs.Result.{result_err}
use Rattle.sheet.specs.Layout.{locals_of, code_of}
use Rattle.sheet.specs.Checks.{locals_ok, fresh, names_ok, check_code}
use Rattle.sheet_labels.specs.Labelled.{LabelsOf, LabelLists, Named, Labelled}
use Rattle.sheet.specs.Shaped.{Shaped, code_size}

-- ---- checks 18 and 5 to 8

-- by the count n of a sheet in shape
pub code_is : (s : List ℕ) (n : ℕ) → Shaped s n → check_code (locals_of s) (code_of s)
    ≡ (check FlaggedStop (first_bad n 0 (λ k. stop_ok (at (code_of s) k)))
    then check Local (first_bad n 0 (λ k. locals_ok (locals_of s) (at (code_of s) k)))
    then check LabelRepeated (first_bad n 0 (fresh (code_of s)))
    then check LabelUndefined (first_bad n 0 (λ k. names_ok (code_of s) (at (code_of s) k)))
    then check FallsThrough (first_bad 1 (n - 1) (λ k. not (falls_through (at (code_of s) k)))))
unfolding check_code
code_is s n h =
    ap (λ (m : ℕ). check FlaggedStop (first_bad m 0 (λ k. stop_ok (at (code_of s) k)))
    then check Local (first_bad m 0 (λ k. locals_ok (locals_of s) (at (code_of s) k)))
    then check LabelRepeated (first_bad m 0 (fresh (code_of s)))
    then check LabelUndefined (first_bad m 0 (λ k. names_ok (code_of s) (at (code_of s) k)))
    then check FallsThrough (first_bad 1 (m - 1) (λ k. not (falls_through (at (code_of s) k))))) (code_size h)

-- 6 and 7 taken together
pub code_by_labels : (s : List ℕ) (n : ℕ) → Shaped s n → check_code (locals_of s) (code_of s)
    ≡ (check FlaggedStop (first_bad n 0 (λ k. stop_ok (at (code_of s) k)))
    then check Local (first_bad n 0 (λ k. locals_ok (locals_of s) (at (code_of s) k)))
    then (check LabelRepeated (first_bad n 0 (fresh (code_of s))) then check LabelUndefined (first_bad n 0 (λ k. names_ok (code_of s) (at (code_of s) k))))
    then check FallsThrough (first_bad 1 (n - 1) (λ k. not (falls_through (at (code_of s) k)))))
code_by_labels s n h =
    code_is s n h
    ∙ ap (λ (v : Verdict). check FlaggedStop (first_bad n 0 (λ k. stop_ok (at (code_of s) k))) then check Local (first_bad n 0 (λ k. locals_ok (locals_of s) (at (code_of s) k))) then v)
    (sym (then_assoc (check LabelRepeated (first_bad n 0 (fresh (code_of s)))) _ _))

-- the last instruction: a search of one place
pub end_refused : (k : ℕ) (ok : ℕ → Bool) → ok k ≡ false → Err (FallsThrough k) ≡ check FallsThrough (first_bad 1 k ok)
unfolding first_bad
end_refused k ok e = sym (ap (λ (b : Bool). check FallsThrough (elim b as (λ _. Option ℕ) [ true ↦ None | false ↦ Some k ])) e)

pub end_accepted : (k : ℕ) (ok : ℕ → Bool) → ok k ≡ true → Accepted ≡ check FallsThrough (first_bad 1 k ok)
unfolding first_bad
end_accepted k ok e = sym (ap (λ (b : Bool). check FallsThrough (elim b as (λ _. Option ℕ) [ true ↦ None | false ↦ Some k ])) e)

-- a repeated Label
pub repeats : {code : List Bytecode} {r : Result ℕ ℕ} {labels places : List ℕ} {k : ℕ} → LabelsOf code r labels places → r ≡ Err k → first_bad (length code) 0 (fresh code) ≡ Some k
repeats l q = sym l.first ∙ ap result_err q

-- every Label once: their lists, as parts of what was lent
pub labels_listed : {code : List Bytecode} {r : Result ℕ ℕ} {labels places : List ℕ} {m : ℕ} → LabelsOf code r labels places → r ≡ Ok m → LabelLists code (take (m - 0) (drop 0 labels)) (take (m - 0) (drop 0 places))
labels_listed {code} {labels = labels} {places = places} {m} l q =
    let e : m - 0 ≡ m = omega arith in
    subst (λ (x : ℕ). LabelLists code (take x labels) (take x places)) (sym e) (l.listed m q)

-- ---- the three answers of checks 6 and 7

module _ {code : List Bytecode} {n : ℕ} {r : Result ℕ ℕ} {labels places : List ℕ} (size : length code ≡ n) (l : LabelsOf code r labels places) where
  six : result_err r ≡ first_bad n 0 (fresh code)
  six = l.first ∙ ap (λ (x : ℕ). first_bad x 0 (fresh code)) size

  pub labelled_repeated : {targets : List ℕ} {k : ℕ} → r ≡ Err k → Labelled code n (Err (LabelRepeated k)) targets
  labelled_repeated q = record {
    answer = sym (then_stops _ (sym (refused_at LabelRepeated (sym six ∙ ap result_err q))));
    resolved = λ e. absurd (never (sym e));
  }

  passes : {m : ℕ} → r ≡ Ok m → check LabelRepeated (first_bad n 0 (fresh code)) ≡ Accepted
  passes q = sym (accepted_none LabelRepeated (sym six ∙ ap result_err q))

  pub labelled_undefined : {targets : List ℕ} {f : Option ℕ} {m k : ℕ} → r ≡ Ok m → Named code n f targets → f ≡ Some k → Labelled code n (Err (LabelUndefined k)) targets
  labelled_undefined q named e = record {
    answer = refused_at LabelUndefined (sym named.first ∙ e) ∙ sym (then_goes _ (passes q));
    resolved = λ z. absurd (never (sym z));
  }

  pub labelled_all : {targets : List ℕ} {f : Option ℕ} {m : ℕ} → r ≡ Ok m → Named code n f targets → f ≡ None → Labelled code n Accepted targets
  labelled_all q named e = record {
    answer = accepted_none LabelUndefined (sym named.first ∙ e) ∙ sym (then_goes _ (passes q));
    resolved = λ z. named.resolved e;
  }
