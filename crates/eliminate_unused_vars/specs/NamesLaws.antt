-- Numbers for the places of a list, for the user locals and for what the code of an accepted sheet mentions, one after the other. Assumes nothing.
use Rattle.std.specs.Prelude.{◌≡◌, ℕ, ◌+◌, ◌≤◌, ◌<◌, get_or, length, take, List, [], ◌∷◌}
use Rattle.std.proofs.Common.{sym, ap, ◌∙◌, add-one, arith, take-suc, take_all}
use Rattle.base.specs.Sizes.{max_locals}
use Rattle.base.specs.Bytes.{u16_at}
use Rattle.base.specs.Lists.{tab, gather, firsts}
use Rattle.base.specs.Refusals.{Accepted}
use Rattle.base.specs.GrowLaws.{firsts_append, gather_more}
use Rattle.base.specs.TabLaws.{tab_last}
use Rattle.stackless_bytecode.specs.declared.Bytecode.{Bytecode}
use Rattle.stackless_bytecode.specs.Kinds.{nop, at}
use Rattle.sheet.specs.Layout.{count_of, locals_of, user_locals_of, code_of}
use Rattle.sheet.specs.Checks.{check_sheet}
use Rattle.sheet.specs.CheckLaws.{code_length}
use Rattle.sheet.specs.ValidLaws.{accepted_valid}
use Rattle.livevar_analysis.specs.Rules.{InRange}
use Rattle.livevar_analysis.specs.InputLaws.{code_at, in_range}
use Rattle.eliminate_unused_vars.specs.Remap.{mentions, staying}
use Rattle.eliminate_unused_vars.specs.Renumber.{staying_in}

-- ---- one more

-- place of a list
pub list_next : (seen xs : List ℕ) (i : ℕ) → i < length xs → firsts (firsts seen (take i xs)) (get_or xs i 0 ∷ []) ≡ firsts seen (take (i + 1) xs)
list_next seen xs i h = sym (ap (λ (n : ℕ). firsts seen (take n xs)) (add-one i) ∙ ap (firsts seen) (take-suc xs i 0 h) ∙ firsts_append seen (take i xs) (get_or xs i 0 ∷ []))

-- user local
pub user_next : (seen : List ℕ) (n : ℕ) → firsts (firsts seen (tab n 0 (λ i. i))) (n ∷ []) ≡ firsts seen (tab (n + 1) 0 (λ i. i))
user_next seen n = sym (ap (firsts seen) (tab_last n (λ i. i)) ∙ firsts_append seen (tab n 0 (λ i. i)) (n ∷ []))

-- instruction
pub code_next : (seen : List ℕ) (code : List Bytecode) (k : ℕ) → k < length code → firsts (firsts seen (gather mentions (take k code))) (mentions (at code k)) ≡ firsts seen (gather mentions (take (k + 1) code))
code_next seen code k h = sym (ap (firsts seen) (gather_more mentions code k nop h) ∙ firsts_append seen (gather mentions (take k code)) (mentions (at code k)))

-- ---- an accepted sheet

module _ (s : List ℕ) (accepted : check_sheet s ≡ Accepted) where
  pub users_low : (u16_at s 8 ≤ u16_at s 6) × (u16_at s 6 ≤ max_locals)
  unfolding user_locals_of locals_of
  users_low = let v = accepted_valid s accepted in (v.users, v.locals)

  pub range_at : (k : ℕ) → k < length (code_of s) → InRange (at (code_of s) k)
  range_at k h = let low : k < count_of s = omega (arith, code_length s) in rw (code_at s accepted k low) (in_range s accepted k low)

-- all that stay
pub all_named : (s : List ℕ) (n k : ℕ) → u16_at s 8 ≤ n → n ≤ u16_at s 8 → length (code_of s) ≤ k → firsts (firsts [] (tab n 0 (λ i. i))) (gather mentions (take k (code_of s))) ≡ staying_in s
unfolding staying user_locals_of
all_named s n k l g h =
    let same : n ≡ u16_at s 8 = omega arith in
    ap (λ (c : List Bytecode). firsts (firsts [] (tab n 0 (λ i. i))) (gather mentions c)) (take_all k (code_of s) h)
    ∙ sym (firsts_append [] (tab n 0 (λ i. i)) (gather mentions (code_of s))) ∙ ap (λ (u : ℕ). staying u (code_of s)) same
