-- What the call rewrite replies: refused by the checks, too short, or what the worker answers. Assumes nothing.
use Rattle.base.specs.declared.Refusal.TheVariants.{CodeTooLong, NumberTooHigh, OutputShort}
use Rattle.std.specs.Prelude.{◌≡◌, refl, Bool, true, false, List, ◌++◌, ℕ, ◌*◌, ◌≤◌, ◌<◌, leb, length, take, drop, Result, Ok, Err, IfOk}
use Rattle.std.proofs.Common.{sym, ap₂, ◌∙◌, arith, ap, subst, take_at}
use Rattle.base.specs.Sizes.{pair_bytes, max_bytes, max_instructions}
use Rattle.base.specs.Refusals.{Accepted, Reply, Done, answer_of, output_after}
use Rattle.base.specs.RefusalLaws.{accepted_whole, refused_whole, lends_short, lends_enough}
use Rattle.base.specs.ReplyLaws.{call_refused, call_goes, reply_refused, reply_done}
use Rattle.base.specs.declared.Refusal.{Refusal}
use Rattle.sheet.specs.Layout.{code_of, refs_of}
use Rattle.sheet.specs.Checks.{check_sheet}
use Rattle.sheet.specs.CheckLaws.{code_length}
use Rattle.base.specs.Bytes.{Bytes}
use Rattle.sheet.specs.Accepted.{CheckedSheet}
use Rattle.livevar_analysis.specs.Analysis.{infos_of}
use Rattle.livevar_analysis.specs.OutputLaws.{live_read}
use Rattle.livevar_analysis.specs.Prepared.{LiveWritten}
use Rattle.livevar_transform.specs.Rewrite.{sheet_info, new_code, new_sheet, numbers_fit, rewrite_reply}
use Rattle.livevar_transform.specs.RewriteAccepted.{AcceptedRewriting}
use Rattle.livevar_transform.specs.RewriteAcceptedLaws.{rewritten_accepted}
use Rattle.livevar_transform.specs.RewriteWork.{Asked, accepted_reply, RewriteAnswers}

-- the bytes that live wrote are the sets that rewriting asks for
pub asked : {s targets info info' : List ℕ} {n r : ℕ} → CheckedSheet s n targets → LiveWritten s r info info' → pair_bytes * n ≤ length info' → Asked s targets info' n
asked {s} {targets} {info} {info'} {n} g w h = record {
  ready = record { known = record { accepted = g.accepted; count = g.count; room = h }; resolved = g.resolved; slots = g.slots };
  sets = ap (infos_of n) w.written ∙ live_read s g.accepted n (drop (pair_bytes * length (code_of s)) info) (g.count ∙ sym (code_length s));
}

-- refused by the checks
pub rewrite_refused : (s : List ℕ) (lent : ℕ) {e : Refusal} → check_sheet s ≡ Err e → rewrite_reply s lent ≡ Err e
unfolding rewrite_reply
rewrite_refused s lent q = call_refused _ _ q

-- too little is lent
pub rewrite_short : (s : List ℕ) (lent : ℕ) → check_sheet s ≡ Accepted → lent < max_bytes → rewrite_reply s lent ≡ Err OutputShort
unfolding rewrite_reply
rewrite_short s lent e h = call_goes _ _ e ∙ call_refused _ _ (lends_short h)

-- what the worker answers
pub rewrite_asked : (s : List ℕ) (lent : ℕ) → check_sheet s ≡ Accepted → max_bytes ≤ lent → rewrite_reply s lent ≡ accepted_reply s
unfolding rewrite_reply
rewrite_asked s lent e h = call_goes _ _ e ∙ call_goes _ _ (lends_enough h)

-- a reply that is no refusal is the new sheet
pub replied : (s : List ℕ) {m : ℕ} → answer_of (accepted_reply s) ≡ Ok m → accepted_reply s ≡ Done (length (new_sheet s)) (new_sheet s)
replied s {m} = go (numbers_fit (code_of s) (sheet_info s) (refs_of s)) (leb (length (new_code s)) max_instructions) refl refl
  where
    never : {e : Refusal} → accepted_reply s ≡ Err e → answer_of (accepted_reply s) ≡ Ok m → accepted_reply s ≡ Done (length (new_sheet s)) (new_sheet s)
    never {e} h z = let q : ◌≡◌ {A = Result ℕ Refusal} (Err e) (Ok m) = sym (ap answer_of h) ∙ z in absurd (let w : ◌≡◌ {A = ℕ} 0 1 = cc in omega arith)

    go : (x y : Bool) → numbers_fit (code_of s) (sheet_info s) (refs_of s) ≡ x → leb (length (new_code s)) max_instructions ≡ y → answer_of (accepted_reply s) ≡ Ok m → accepted_reply s ≡ Done (length (new_sheet s)) (new_sheet s)
    go false y e f = never (call_refused _ _ (sym (refused_whole NumberTooHigh e)))
    go true false e f = never (call_goes _ _ (sym (accepted_whole NumberTooHigh e)) ∙ reply_refused _ (sym (refused_whole CodeTooLong f)))
    go true true e f = λ z. call_goes _ _ (sym (accepted_whole NumberTooHigh e)) ∙ reply_done _ (sym (accepted_whole CodeTooLong f))

pub record RewriteDone (s out : List ℕ) (r : Result ℕ Refusal) (out' : List ℕ) : Type 0 where
  pub result : r ≡ answer_of (rewrite_reply s (length out))
  pub written : out' ≡ output_after (rewrite_reply s (length out)) out
  pub accepted : IfOk r (λ m. AcceptedRewriting s (take m out'))

pub rewrite_done : (s out : List ℕ) (r : Result ℕ Refusal) (out' : List ℕ) → Bytes s → check_sheet s ≡ Accepted → max_bytes ≤ length out → RewriteAnswers s out r out' → RewriteDone s out r out'
rewrite_done s out r out' b e h a = record {
  result = a.result ∙ sym (ap answer_of d);
  written = a.written ∙ sym (ap (λ (x : Reply). output_after x out) d);
  accepted = meant r a.result;
}
  where
    d : rewrite_reply s (length out) ≡ accepted_reply s
    d = rewrite_asked s (length out) e h

    again : {m : ℕ} → Ok m ≡ answer_of (accepted_reply s) → accepted_reply s ≡ Done (length (new_sheet s)) (new_sheet s) → AcceptedRewriting s (take m out')
    again {m} o q =
        let same : ◌≡◌ {A = Result ℕ Refusal} (Ok m) (Ok (length (new_sheet s))) = o ∙ ap answer_of q in
        let n : m ≡ length (new_sheet s) = cc in
        let w : out' ≡ new_sheet s ++ drop (length (new_sheet s)) out = a.written ∙ ap (λ (x : Reply). output_after x out) q in
        subst (AcceptedRewriting s) (sym (ap₂ take n w ∙ take_at (new_sheet s) (drop (length (new_sheet s)) out) (length (new_sheet s)) refl)) (rewritten_accepted s (new_sheet s) (length out) _ b (d ∙ q))

    meant : (x : Result ℕ Refusal) → x ≡ answer_of (accepted_reply s) → IfOk x (λ m. AcceptedRewriting s (take m out'))
    meant (Ok m) o = again o (replied s (sym o))
    meant (Err f) o = tt
