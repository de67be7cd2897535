-- What a call promises of its answer, its C entry point promises of the packed number. Assumes nothing.
use Rattle.std.specs.Prelude.{◌≡◌, List, [], ℕ, Result, Ok, Err, IfOk}
use Rattle.std.proofs.Common.{ap, subst}
use Rattle.base.specs.declared.Refusal.{Refusal}
use Rattle.base.specs.Refusals.{Accepted, Done, answer_of}
use Rattle.base.specs.ReplyLaws.{reply_refused, reply_done}
use Rattle.sheet.specs.Checks.{check_sheet}
use Rattle.c_api.specs.Packed.{check_reply}

-- what holds of an answer where it is no refusal
pub ok_of : (P : ℕ → Type 0) {x y : Result ℕ Refusal} → x ≡ y → IfOk x P → IfOk y P
ok_of P e h = subst (λ (r : Result ℕ Refusal). IfOk r P) e h

-- the checks alone
pub check_accepted : (s : List ℕ) → check_sheet s ≡ Accepted → answer_of (check_reply s) ≡ Ok 0
unfolding check_reply
check_accepted s q = ap answer_of (reply_done (Done 0 []) q)

pub check_refused : (s : List ℕ) (e : Refusal) → check_sheet s ≡ Err e → answer_of (check_reply s) ≡ Err e
unfolding check_reply
check_refused s e q = ap answer_of (reply_refused (Done 0 []) q)
