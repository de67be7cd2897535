-- What the rewriting worker is asked and answers. Assumes nothing.
use Rattle.base.specs.declared.Refusal.TheVariants.{CodeTooLong, NumberTooHigh}
use Rattle.std.specs.Prelude.{◌≡◌, Bool, ◌||◌, ◌&&◌, List, ℕ, suc, eqb, leb, length, Result}
use Rattle.base.specs.Sizes.{max_number, max_instructions}
use Rattle.base.specs.Refusals.{Verdict, ◌then◌, Reply, Done, reply, answer_of, output_after, check_whole}
use Rattle.base.specs.declared.Refusal.{Refusal}
use Rattle.sheet.specs.Layout.{refs_of, code_of}
use Rattle.livevar_analysis.specs.Analysis.{infos_of}
use Rattle.livevar_transform.specs.declared.plan.Next.{Next}
use Rattle.livevar_transform.specs.Rewrite.{sheet_info, new_code, new_sheet, numbers_fit}
use Rattle.livevar_transform.specs.Plan.{Ready}

-- rewriting is asked of an accepted sheet of n instructions, with the offsets of its labels and the bytes that live wrote
pub record Asked (s targets info : List ℕ) (n : ℕ) : Type 0 where
  pub ready : Ready s targets info n
  pub sets : infos_of n info ≡ sheet_info s

-- checks 10 and 11 of the new code: whether its numbers fit, and whether it is short enough
abbrev pub check_new : Bool → Bool → Verdict
check_new fits short = check_whole NumberTooHigh fits then check_whole CodeTooLong short

-- what is replied of an accepted sheet where enough is lent
abbrev pub accepted_reply : List ℕ → Reply
accepted_reply s = reply (check_new (numbers_fit (code_of s) (sheet_info s) (refs_of s)) (leb (length (new_code s)) max_instructions)) (Done (length (new_sheet s)) (new_sheet s))

-- the answer, and the lent output after it
pub record RewriteAnswers (s before : List ℕ) (r : Result ℕ Refusal) (after : List ℕ) : Type 0 where
  pub result : r ≡ answer_of (accepted_reply s)
  pub written : after ≡ output_after (accepted_reply s) before

-- no number is used up between these, or those behind are at most one above the highest
abbrev pub fit_between : Next → Next → Bool
fit_between first last = eqb first.attr last.attr || (leb last.label (suc max_number) && leb last.attr (suc max_number))
