-- The order of the locals that stay: the user locals first, each under its own number; and what stays under the new numbers has those numbers already. Assumes nothing.
use Rattle.std.specs.Prelude.{◌≡◌, ℕ, ◌≤◌, ◌<◌, length, List, [], ◌++◌, map}
use Rattle.std.proofs.Common.{sym, ap, ap₂, ◌∙◌, subst, zero-add, arith, length-append, ext_get_or}
use mathlib.Core.List.Memᴰ
use Rattle.std.proofs.lemmas.List.{length-map}
use Rattle.base.specs.Lists.{tab, gather, place, firsts, Distinct, empty}
use Rattle.base.specs.ListLaws.{in_has, in_tab, tab_in, length_tab, get_d_tab, firsts_distinct, firsts_in}
use Rattle.base.specs.GrowLaws.{map_append, place_front, firsts_append}
use Rattle.stackless_bytecode.specs.declared.Bytecode.{Bytecode}
use Rattle.livevar_analysis.specs.BlockRuleLaws.{get_d_map_lt}
use Rattle.eliminate_unused_vars.specs.Remap.{mentions, staying, new_number}
use Rattle.eliminate_unused_vars.specs.MoreListLaws.{map_own, firsts_front, firsts_tab, firsts_map}
use Rattle.eliminate_unused_vars.specs.StayingLaws.{stay_once, number_at, numbers_apart}

-- ---- new numbers in their order

-- the locals that stay have 0, 1, 2, ..
numbers_tab : (stay : List ℕ) → Distinct stay → map (new_number stay) stay ≡ tab (length stay) 0 (λ i. i)
numbers_tab stay d =
    let size = length-map stay (new_number stay) in
    ext_get_or 0 (map (new_number stay) stay) (tab (length stay) 0 (λ i. i)) (size ∙ sym (length_tab (length stay) 0 (λ (i : ℕ). i)))
    (λ i h. let l : i < length stay = omega arith in
    get_d_map_lt (new_number stay) stay i 0 0 l ∙ number_at i d l ∙ sym (get_d_tab (length stay) 0 i (λ i. i) 0 l ∙ zero-add i))

-- where the numbers below n stay in their order, each has its own
pub tab_number : (n i : ℕ) → i < n → new_number (tab n 0 (λ i. i)) i ≡ i
tab_number n i h =
    let xs = tab n 0 (λ (i : ℕ). i) in
    let once : Distinct xs = subst Distinct (firsts_tab n) (firsts_distinct [] xs empty) in
    ap (new_number xs) (sym (get_d_tab n 0 i (λ i. i) 0 h ∙ zero-add i)) ∙ number_at i once (omega (arith, length_tab n 0 (λ (i : ℕ). i)))

-- ---- the user locals stand first

module _ (users : ℕ) (code : List Bytecode) where
  users_first : (zs : List ℕ) × (staying users code ≡ tab users 0 (λ i. i) ++ zs)
  unfolding staying
  users_first =
      let r = firsts_front (tab users 0 (λ i. i)) (gather mentions code) in
      (r.0, firsts_append [] (tab users 0 (λ i. i)) (gather mentions code) ∙ ap (λ (l : List ℕ). firsts l (gather mentions code)) (firsts_tab users) ∙ r.1)

  pub users_fit : users ≤ length (staying users code)
  users_fit = omega (arith, ap length users_first.1, length-append (tab users 0 (λ i. i)) users_first.0, length_tab users 0 (λ (i : ℕ). i))

  -- a user local keeps its number
  pub own_number : (i : ℕ) → i < users → new_number (staying users code) i ≡ i
  unfolding new_number
  own_number i h =
      let mine = tab users 0 (λ (i : ℕ). i) in
      ap (place i) users_first.1 ∙ place_front i mine users_first.0 (in_has i mine (tab_in users 0 i (omega arith) (omega arith))) ∙ tab_number users i h

  own_tab : map (new_number (staying users code)) (tab users 0 (λ i. i)) ≡ tab users 0 (λ i. i)
  own_tab = map_own (new_number (staying users code)) (tab users 0 (λ i. i)) (λ x i. let b = in_tab users 0 x i in own_number x (omega (arith, b.1)))

  -- where code mentions the new numbers, in the same order, they stay, each under itself
  numbers_stay : (new : List Bytecode) → gather mentions new ≡ map (new_number (staying users code)) (gather mentions code)
      → staying users new ≡ map (new_number (staying users code)) (staying users code)
  unfolding staying
  numbers_stay new e =
      let g = new_number (staying users code) in
      let met = tab users 0 (λ (i : ℕ). i) ++ gather mentions code in
      ap (firsts []) (ap₂ (λ (x y : List ℕ). x ++ y) (sym own_tab) e ∙ sym (map_append g (tab users 0 (λ i. i)) (gather mentions code)))
      ∙ firsts_map g (firsts [] met) (numbers_apart (firsts [] met)) [] met (λ y i. absurd (Memᴰ.not-nil i)) (λ y i. firsts_in [] met y i)

  pub staying_again : (new : List Bytecode) → gather mentions new ≡ map (new_number (staying users code)) (gather mentions code)
      → staying users new ≡ tab (length (staying users code)) 0 (λ i. i)
  staying_again new e = numbers_stay new e ∙ numbers_tab (staying users code) (stay_once users code)
