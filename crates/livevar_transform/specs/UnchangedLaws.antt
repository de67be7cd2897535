-- A sheet of which nothing is dropped or merged, and whose edges lose nothing, is its own rewriting: the proof. Assumes nothing.
use Rattle.base.specs.declared.Refusal.TheVariants.{CodeTooLong, NumberTooHigh}
use Rattle.std.specs.Prelude.{◌≡◌, Bool, true, ◌||◌, ◌&&◌, ℕ, zero, suc, ◌*◌, ◌≤◌, ◌<◌, take, refl, cond, List, [], ◌∷◌, ◌++◌, eqb, leb, length}
use Rattle.std.proofs.Common.{ap, ap₂, sym, ◌∙◌, true≢false, arith, le-leb, ltb-false, take-suc, append-nil}
use Rattle.std.proofs.Math.Seq.{take-length}
use Rattle.base.specs.Sizes.{max_number, max_instructions, max_bytes}
use Rattle.base.specs.Lists.{joins}
use Rattle.base.specs.Refusals.{Accepted, Done}
use Rattle.base.specs.RefusalLaws.{accepted_whole, lends_enough}
use Rattle.base.specs.ReplyLaws.{call_goes, reply_done}
use Rattle.stackless_bytecode.specs.declared.Bytecode.{Bytecode}
use Rattle.stackless_bytecode.specs.Kinds.{at, nop}
use Rattle.sheet.specs.Layout.{heading_rest, refs_of, code_of, sheet_of}
use Rattle.sheet.specs.Checks.{check_sheet}
use Rattle.base.specs.Bytes.{Bytes}
use Rattle.sheet_writer.specs.BodyLaws.{accepted_body}
use Rattle.livevar_analysis.specs.Analysis.{LiveVarInfo}
use Rattle.livevar_transform.specs.Rewrite.{aimed, destroy_block, is_merged, target_of, lost_refs, is_losing, label_for, attr_for, goes_to, stands_for, kept_code, block_on, added_code, transform_code, sheet_info, new_code, numbers_fit, rewrite_reply}
use Rattle.livevar_transform.specs.PieceLaws.{is_merged_lem, merged_inside, behind_dropped}
use Rattle.livevar_transform.specs.PlaceLaws.{by_stands, edge_target, edge_target_else}
use Rattle.livevar_transform.specs.Unchanged.{Untouched, OwnRewriting}
use Rattle.sheet_writer.specs.WholeLaws.{whole_again}

joins_empty : (n : ℕ) (f : ℕ → List Bytecode) → ((k : ℕ) → k < n → f k ≡ []) → joins n f ≡ []
unfolding joins
joins_empty zero f h = refl
joins_empty (suc n) f h = ap₂ ◌++◌ (joins_empty n f (λ k l. h k (omega arith))) (h n (omega arith))

joins_each : (n : ℕ) (f : ℕ → List Bytecode) (xs : List Bytecode) → n ≤ length xs → ((k : ℕ) → k < n → f k ≡ at xs k ∷ []) → joins n f ≡ take n xs
unfolding joins
joins_each zero f xs l h = refl
joins_each (suc n) f xs l h =
    ap₂ ◌++◌ (joins_each n f xs (omega arith) (λ k g. h k (omega arith))) (h n (omega arith)) ∙ sym (take-suc xs n nop l)

module _ (code : List Bytecode) (is : List LiveVarInfo) (refs : ℕ) (h : Untouched code is refs) where
  none_lost : (e : ℕ) → e < 2 * length code → lost_refs code is refs e ≡ []
  none_lost e l = empty (lost_refs code is refs e) (ltb-false 0 _ (unfold is_losing in h.whole e l))
    where
      empty : (xs : List ℕ) → length xs ≤ 0 → xs ≡ []
      empty [] g = refl
      empty (x ∷ xs) g = absurd (omega arith)

  no_block : (e : ℕ) → e < 2 * length code → block_on code is refs e ≡ []
  unfolding block_on destroy_block
  no_block e l = ap (destroy_block (attr_for code is refs e) (label_for code is refs e) (target_of code e)) (none_lost e l)

  pub none_added : added_code code is refs ≡ []
  unfolding added_code
  none_added = joins_empty (2 * length code) (block_on code is refs) no_block

  none_merged : (k : ℕ) → is_merged code is k ≡ true → ⊥
  none_merged k e = true≢false (sym (behind_dropped code is k e) ∙ h.kept (suc k) (merged_inside code is k (is_merged_lem code is k e)))

  goes_on : (e : ℕ) → e < 2 * length code → goes_to code is refs e ≡ target_of code e
  unfolding goes_to
  goes_on e l = ap (λ (b : Bool). cond b (label_for code is refs e) (target_of code e)) (h.whole e l)

  same_branch : (k : ℕ) → k < length code → aimed (at code k) (goes_to code is refs (2 * k)) (goes_to code is refs (suc (2 * k))) ≡ at code k
  same_branch k l = ap₂ (aimed (at code k)) (goes_on (2 * k) (omega arith) ∙ edge_target code is refs k) (goes_on (suc (2 * k)) (omega arith) ∙ edge_target_else code is refs k)

  same_at : (k : ℕ) → k < length code → stands_for code is refs k ≡ at code k
  same_at k l = by_stands code is refs (λ r. r ≡ at code k) k (λ q. same_branch k l) (λ m. absurd (none_merged k m)) (λ q m. refl)

  kept_same : (k : ℕ) → k < length code → kept_code code is refs k ≡ at code k ∷ []
  unfolding kept_code
  kept_same k l = ap₂ (λ (b : Bool) (x : Bytecode). cond b [] (x ∷ [])) (h.kept k l) (same_at k l)

  pub same_code : transform_code code is refs ≡ code
  unfolding transform_code
  same_code =
      ap₂ ◌++◌ (joins_each (length code) (kept_code code is refs) code (omega arith) kept_same ∙ take-length code) none_added
      ∙ append-nil code

-- the theorem
pub unchanged : (s : List ℕ) → Bytes s → check_sheet s ≡ Accepted → Untouched (code_of s) (sheet_info s) (refs_of s) → OwnRewriting s
unchanged s bytes e h = record { is = own }
  where
    same : new_code s ≡ code_of s
    same = same_code (code_of s) (sheet_info s) (refs_of s) h

    numbers : numbers_fit (code_of s) (sheet_info s) (refs_of s) ≡ true
    numbers =
        unfold numbers_fit in ap (λ (added : List Bytecode). eqb (length added) 0 || (leb (label_for (code_of s) (sheet_info s) (refs_of s) (2 * length (code_of s))) (suc max_number) && leb (attr_for (code_of s) (sheet_info s) (refs_of s) (2 * length (code_of s))) (suc max_number)))
        (none_added (code_of s) (sheet_info s) (refs_of s) h)

    few : leb (length (new_code s)) max_instructions ≡ true
    few = ap (λ (c : List Bytecode). leb (length c) max_instructions) same ∙ le-leb _ max_instructions (accepted_body s bytes e).few

    own : (lent : ℕ) → max_bytes ≤ lent → rewrite_reply s lent ≡ Done (length s) s
    own lent l =
        unfold rewrite_reply in (call_goes _ _ e ∙ call_goes _ _ (lends_enough l) ∙ call_goes _ _ (sym (accepted_whole NumberTooHigh numbers)) ∙ reply_done _ (sym (accepted_whole CodeTooLong few))
        ∙ ap (λ (t : List ℕ). Done (length t) t) (ap (sheet_of (heading_rest s)) same ∙ whole_again s bytes e))
