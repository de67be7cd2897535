-- Which locals stay: the user locals and those that are mentioned, each once. Assumes nothing.
use Rattle.std.specs.Prelude.{◌≡◌, ◌⊎◌, ℕ, ◌<◌, get_or, length, List, [], ◌++◌}
use Rattle.std.proofs.Common.{sym, ap, ◌∙◌, arith, ⊎_elim, inl, inr}
use mathlib.Core.List.Memᴰ
use mathlib.Core.List.{Memᴰ}
use Rattle.base.specs.Lists.{tab, gather, Distinct, empty}
use Rattle.base.specs.ListLaws.{firsts_distinct, in_firsts, firsts_in, in_tab, place_lt, get_d_place, place_get_d}
use Rattle.stackless_bytecode.specs.declared.Bytecode.{Bytecode}
use Rattle.eliminate_unused_vars.specs.Remap.{mentions, staying, new_number}

module _ (users : ℕ) (code : List Bytecode) where
  pub stay_once : Distinct (staying users code)
  unfolding staying
  stay_once = firsts_distinct [] (tab users 0 (λ i. i) ++ gather mentions code) empty

  pub mentioned_stays : (x : ℕ) → Memᴰ x (gather mentions code) → Memᴰ x (staying users code)
  unfolding staying
  mentioned_stays x i = firsts_in [] _ x (Memᴰ.append_right (tab users 0 (λ i. i)) i)

  pub in_staying : (x : ℕ) → Memᴰ x (staying users code) → (x < users) ⊎ Memᴰ x (gather mentions code)
  unfolding staying
  in_staying x i =
      ⊎_elim (λ n. absurd (Memᴰ.not-nil n)) (λ m. ⊎_elim (λ u. let b = in_tab users 0 x u in inl (omega (arith, b.1))) (λ g. inr g) (Memᴰ.append_cases (tab users 0 (λ i. i)) m))
      (in_firsts [] (tab users 0 (λ i. i) ++ gather mentions code) x i)

-- ---- new numbers

pub number_lt : (stay : List ℕ) (x : ℕ) → Memᴰ x stay → new_number stay x < length stay
unfolding new_number
number_lt stay x i = place_lt x stay i

-- the local that has a local's new number is that local
pub number_of : (stay : List ℕ) (x : ℕ) → Memᴰ x stay → get_or stay (new_number stay x) 0 ≡ x
unfolding new_number
number_of stay x i = get_d_place x stay i

pub number_at : {stay : List ℕ} (k : ℕ) → Distinct stay → k < length stay → new_number stay (get_or stay k 0) ≡ k
unfolding new_number
number_at k d h = place_get_d k d h

-- no two get one number
pub numbers_apart : (stay : List ℕ) (x y : ℕ) → Memᴰ x stay → Memᴰ y stay → new_number stay x ≡ new_number stay y → x ≡ y
numbers_apart stay x y i j e = sym (number_of stay x i) ∙ ap (λ (k : ℕ). get_or stay k 0) e ∙ number_of stay y j
