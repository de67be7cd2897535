-- What the call renumber replies: refused by the checks, by 15 or 9, or the new sheet. Assumes nothing.
use Rattle.base.specs.declared.Refusal.{Refusal}
use Rattle.base.specs.declared.Refusal.TheVariants.{LocalHidden, OutputShort}
use Rattle.std.specs.Prelude.{◌≡◌, refl, List, ℕ, ◌≤◌, length, take, drop, Err}
use Rattle.std.proofs.Common.{sym, ap₂, ◌∙◌, subst, leb-true, take_at}
use Rattle.base.specs.Bytes.{Bytes}
use Rattle.base.specs.Refusals.{Accepted, lends, Done}
use Rattle.base.specs.RefusalLaws.{passed, passed_check, passed_whole}
use Rattle.base.specs.ReplyLaws.{call_refused, call_goes, reply_refused, reply_done}
use Rattle.sheet.specs.Checks.{check_sheet}
use Rattle.sheet_writer.specs.Written.{SheetWritten}
use Rattle.eliminate_unused_vars.specs.Renumber.{check_open, renumbered_sheet, renumber_reply}
use Rattle.eliminate_unused_vars.specs.Renumbered.{Renumbered}
use Rattle.eliminate_unused_vars.specs.RenumberedLaws.{sheet_renumbered}

module _ (s : List ℕ) (lent : ℕ) where
  pub renumber_refused : {e : Refusal} → check_sheet s ≡ Err e → renumber_reply s lent ≡ Err e
  unfolding renumber_reply
  renumber_refused q = call_refused _ _ q

  pub renumber_closed : {e : Refusal} → check_sheet s ≡ Accepted → check_open s lent ≡ Err e → renumber_reply s lent ≡ Err e
  unfolding renumber_reply
  renumber_closed q f = call_goes _ _ q ∙ reply_refused _ f

  pub renumber_open : check_sheet s ≡ Accepted → check_open s lent ≡ Accepted → renumber_reply s lent ≡ Done (length (renumbered_sheet s)) (renumbered_sheet s)
  unfolding renumber_reply
  renumber_open q f = call_goes _ _ q ∙ reply_done _ f

-- where 15 and 9 pass, as many bytes are lent as the sheet has
pub open_enough : (s : List ℕ) (lent : ℕ) → check_open s lent ≡ Accepted → length s ≤ lent
open_enough s lent e = leb-true (length s) lent (passed_whole OutputShort _ (passed _ (lends lent (length s)) e).next)

-- a renumbered sheet stands at the front of the output
pub written_renumbered : (s out : List ℕ) (r : ℕ) (out' : List ℕ) → Bytes s → check_sheet s ≡ Accepted → check_open s (length out) ≡ Accepted → SheetWritten (renumbered_sheet s) out r out' → Renumbered s (take r out')
written_renumbered s out r out' b e f w =
    let t = renumbered_sheet s in
    subst (Renumbered s) (sym (ap₂ take w.long w.is ∙ take_at t (drop (length t) out) (length t) refl)) (sheet_renumbered s b e (passed_check LocalHidden _ (passed _ _ f).first))
