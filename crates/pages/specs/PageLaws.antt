-- The page as its functions write it: the rewritten code, the sections, and what the call replies. Assumes nothing.
use Rattle.base.specs.declared.Refusal.TheVariants.{OutputShort}
use Rattle.std.specs.Prelude.{◌≡◌, List, ◌++◌, ℕ, ◌≤◌, ◌<◌, refl, length, take, drop, Result, Ok, Err}
use Rattle.std.proofs.Common.{sym, ap, ◌∙◌, arith, length-append, take_at}
use Rattle.base.specs.Sizes.{max_bytes}
use Rattle.base.specs.declared.Refusal.{Refusal}
use Rattle.base.specs.Refusals.{Verdict, Accepted, Reply, Done, answer_of}
use Rattle.base.specs.RefusalLaws.{lends_short, lends_enough}
use Rattle.base.specs.ReplyLaws.{reply_refused, reply_done, done_value, done_not, done_written}
use Rattle.sheet.specs.Checks.{check_sheet}
use Rattle.base.specs.Bytes.{Bytes}
use Rattle.livevar_transform.specs.Rewrite.{new_sheet, rewrite_reply}
use Rattle.livevar_transform.specs.RewriteWork.{accepted_reply, RewriteAnswers}
use Rattle.livevar_transform.specs.RewriteAcceptedLaws.{rewritten_accepted}
use Rattle.livevar_transform.specs.RewriteCallLaws.{rewrite_asked, replied}
use Rattle.listing.specs.Lines.{refused_text}
use Rattle.pages.specs.Code.{code_text}
use Rattle.pages.specs.Size.{page_bytes}
use Rattle.pages.specs.Page.{rewritten_text, sections, page_by, page, page_reply}

-- ---- the rewritten code

module _ (s out out' : List ℕ) (a : Result ℕ Refusal) (accepted : check_sheet s ≡ Accepted) (answers : RewriteAnswers s out a out') where
  asked : rewrite_reply s max_bytes ≡ accepted_reply s
  asked = rewrite_asked s max_bytes accepted (omega arith)

  -- the line of a refusal
  pub rewrite_refused : (e : Refusal) → a ≡ Err e → refused_text e ≡ rewritten_text (rewrite_reply s max_bytes)
  unfolding rewritten_text
  rewrite_refused e told = by (accepted_reply s) refl ∙ ap rewritten_text (sym asked)
    where
      by : (r : Reply) → accepted_reply s ≡ r → refused_text e ≡ rewritten_text (accepted_reply s)
      by (Err f) q =
          let same : e ≡ f = (let z : ◌≡◌ {A = Result ℕ Refusal} (Err e) (Err f) = sym told ∙ answers.result ∙ ap answer_of q in cc) in ap refused_text same ∙ ap rewritten_text (sym q)
      by (Ok d) q = absurd (done_not answers.result q e told)

  -- the new sheet: its code's text, its length, and that it is accepted
  pub record NewSheet (m : ℕ) : Type 0 where
    pub text : code_text (take m out') ≡ rewritten_text (rewrite_reply s max_bytes)
    pub room : m ≤ length out'
    pub again : check_sheet (take m out') ≡ Accepted

  pub rewrite_written : (m : ℕ) → Bytes s → a ≡ Ok m → NewSheet m
  unfolding rewritten_text
  rewrite_written m bytes told =
      let e : accepted_reply s ≡ Done (length (new_sheet s)) (new_sheet s) = replied s (sym answers.result ∙ told) in
      let size : m ≡ length (new_sheet s) = done_value answers.result e told in
      let is : out' ≡ new_sheet s ++ drop (length (new_sheet s)) out = done_written out answers.written e in
      let new : take m out' ≡ new_sheet s = ap (take m) is ∙ take_at (new_sheet s) (drop (length (new_sheet s)) out) m (sym size) in
      record {
        text = ap code_text new ∙ ap rewritten_text (sym (asked ∙ e));
        room = omega (arith, ap length is, length-append (new_sheet s) (drop (length (new_sheet s)) out));
        again = ap check_sheet new ∙ (rewritten_accepted s (new_sheet s) max_bytes (length (new_sheet s)) bytes (asked ∙ e)).accepted;
      }

-- ---- the page

pub page_accepted : (s : List ℕ) → check_sheet s ≡ Accepted → sections s ≡ page s
unfolding page page_by
page_accepted s e = sym (ap (λ (a : Verdict). page_by a s) e)

pub page_refused : (s : List ℕ) (e : Refusal) → check_sheet s ≡ Err e → refused_text e ≡ page s
unfolding page page_by
page_refused s e q = sym (ap (λ (a : Verdict). page_by a s) q)

-- ---- the call

pub page_short_lent : (s : List ℕ) (lent : ℕ) → lent < page_bytes → page_reply s lent ≡ Err OutputShort
unfolding page_reply
page_short_lent s lent h = reply_refused _ (lends_short h)

pub page_done : (s : List ℕ) (lent : ℕ) → page_bytes ≤ lent → page_reply s lent ≡ Done (length (page s)) (page s)
unfolding page_reply
page_done s lent h = reply_done _ (lends_enough h)
