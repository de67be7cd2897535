-- When the rewriting worker gives refusals 10 and 11, and what it answers. Assumes nothing.
use Rattle.std.specs.Prelude.{◌≡◌, refl, Bool, List, ◌++◌, ℕ, ◌+◌, ◌-◌, ◌*◌, ◌≤◌, leb, length, drop, Ok, Err}
use Rattle.std.proofs.Common.{sym, ap, ap₂, ◌∙◌}
use Rattle.base.specs.Sizes.{refs_at, set_bytes, max_instructions}
use Rattle.base.specs.Bytes.{number, part}
use Rattle.base.specs.Refusals.{Verdict, Accepted, Done, reply}
use Rattle.base.specs.ReplyLaws.{reply_refused, reply_done, refuses, done_result, done_output}
use Rattle.base.specs.declared.Refusal.{Refusal}
use Rattle.sheet.specs.Layout.{heading_rest, refs_of, code_of, sheet_of}
use Rattle.sheet_writer.specs.Written.{SheetWritten}
use Rattle.livevar_analysis.specs.Analysis.{infos_of}
use Rattle.livevar_transform.specs.declared.plan.Fate.{Fate}
use Rattle.livevar_transform.specs.declared.plan.Next.{Next}
use Rattle.livevar_transform.specs.declared.plan.Counts.{Counts}
use Rattle.livevar_transform.specs.Rewrite.{next_free_label, next_free_attr, transform_code, sheet_info, new_code, new_sheet, numbers_fit}
use Rattle.livevar_transform.specs.Plan.{Planned, Counted, code_by}
use Rattle.livevar_transform.specs.PlanLaws.{size}
use Rattle.livevar_transform.specs.NumberLaws.{length_is, written_is}
use Rattle.livevar_transform.specs.PlannedLaws.{code_is, fit_is}
use Rattle.livevar_transform.specs.RewriteWork.{Asked, check_new, accepted_reply, RewriteAnswers, fit_between}

-- ---- the plan of what is asked, and the first numbers

pub refs_is : (s : List ℕ) (m : ℕ) → m ≡ number (part s refs_at set_bytes) → m ≡ refs_of s
unfolding refs_of
refs_is s m e = e

module _ {s targets info : List ℕ} {n refs : ℕ} {fates : List Fate} {lost : List ℕ} {first : Next} {c : Counts} (a : Asked s targets info n) (mask : refs ≡ refs_of s) (p : Planned (code_of s) (infos_of n info) refs fates lost n)
    (label : first.label ≡ next_free_label (code_of s)) (attr : first.attr ≡ next_free_attr (code_of s)) (k : Counted fates lost n first c) where
  new_is : code_by (code_of s) fates lost n first ≡ new_code s
  new_is = code_is (code_of s) (infos_of n info) refs fates lost n first p (size a.ready.known) label attr ∙ ap₂ (transform_code (code_of s)) a.sets mask

  ten : numbers_fit (code_of s) (sheet_info s) (refs_of s) ≡ fit_between first c.next
  ten = sym (fit_is (code_of s) (infos_of n info) refs fates lost n first p (size a.ready.known) label attr c.next k.next ∙ ap₂ (numbers_fit (code_of s)) a.sets mask)

  pub long_is : c.kept + (c.next.attr - first.attr) ≡ length (code_by (code_of s) fates lost n first)
  long_is = length_is (code_of s) first lost fates n c.kept c.next k.kept k.next

  long : c.kept + (c.next.attr - first.attr) ≡ length (new_code s)
  long = long_is ∙ ap length new_is

  pub used_up : first.attr ≤ c.next.attr
  used_up = (written_is (code_of s) first lost (2 * n) c.next k.next).0

  -- ---- what is answered

  -- the verdict by the counts is that of the reply
  module _ (fits : Bool) (is : fits ≡ fit_between first c.next) where
    abbrev verdict : Verdict
    verdict = check_new fits (leb (c.kept + (c.next.attr - first.attr)) max_instructions)

    reply_is : accepted_reply s ≡ reply verdict (Done (length (new_sheet s)) (new_sheet s))
    reply_is = rw (ten, ← is, long)

    pub answers_refused : (before : List ℕ) (f : Refusal) → Err f ≡ verdict → RewriteAnswers s before (Err f) before
    answers_refused before f e =
        let r = refuses before (reply_is ∙ reply_refused _ (sym e)) in
        record { result = r.result; written = r.same }

    pub answers_sheet : (l : ℕ) (before after : List ℕ) → verdict ≡ Accepted → SheetWritten (sheet_of (heading_rest s) (code_by (code_of s) fates lost n first)) before l after → RewriteAnswers s before (Ok l) after
    answers_sheet l before after e w =
        let r : accepted_reply s ≡ Done (length (new_sheet s)) (new_sheet s) = reply_is ∙ reply_done _ e in
        let same = ap (sheet_of (heading_rest s)) new_is in
        record { result = done_result (w.long ∙ ap length same) r; written = done_output before refl r (w.is ∙ ap (λ (t : List ℕ). t ++ drop (length t) before) same) }
