-- What base does not say of lists: the elements of `take`; `map` under `tab` and `gather`; `has` of `keep`; `firsts`, also under `map`. Assumes nothing.
use Rattle.std.specs.Prelude.{◌≡◌, Bool, false, ◌&&◌, ℕ, zero, suc, ◌+◌, ◌≤◌, ◌<◌, ltb, get_or, length, take, refl, cond, List, [], ◌∷◌, ◌++◌, map}
use Rattle.std.proofs.Common.{sym, ap, ap₂, ◌∙◌, subst, true≢false, arith, ltb-true, lt-ltb, get_or-take, length-take-le, ⊎_elim, append-nil, append_assoc}
use mathlib.Core.List.{Memᴰ}
use Rattle.base.specs.Lists.{tab, keep, gather, has, firsts}
use Rattle.base.specs.ListLaws.{and-true, by_test, has_in, in_has, keep_in, in_keep, map_in, in_map, get_d_in, in_tab, tab_snoc}
use Rattle.base.specs.GrowLaws.{map_append, firsts_append, firsts_new}
use Rattle.livevar_analysis.specs.BlockRuleLaws.{get_d_map_lt}

-- ---- the first n of a list

module _ (n i : ℕ) (xs : List ℕ) (h : i < n) (long : n ≤ length xs) where
  many : length (take n xs) ≡ n
  many = length-take-le n xs long

  pub take_in : Memᴰ (get_or xs i 0) (take n xs)
  take_in = subst (λ (x : ℕ). Memᴰ x (take n xs)) (get_or-take n xs i 0 h) (get_d_in (take n xs) i 0 (omega (arith, many)))

  pub map_take_at : (g : ℕ → ℕ) → get_or (map g (take n xs)) i 0 ≡ g (get_or xs i 0)
  map_take_at g = get_d_map_lt g (take n xs) i 0 0 (omega (arith, many)) ∙ ap g (get_or-take n xs i 0 h)

-- ---- `map`

pub tab_map : {A B : Type 0} (g : A → B) (n i : ℕ) (f' : ℕ → B) (f : ℕ → A) → ((k : ℕ) → k < i + n → f' k ≡ g (f k)) → tab n i f' ≡ map g (tab n i f)
unfolding tab
tab_map g zero i f' f h = refl
tab_map g (suc n) i f' f h = ap₂ ◌∷◌ (h i (omega arith)) (tab_map g n (suc i) f' f (λ k l. h k (omega arith)))

pub gather_map : {A B : Type 0} (f : A → List B) (g : A → A) (h : B → B) (xs : List A) → ((x : A) → Memᴰ x xs → f (g x) ≡ map h (f x)) → gather f (map g xs) ≡ map h (gather f xs)
gather_map f g h [] e = refl
gather_map {B = B} f g h (x ∷ xs) e =
    ap₂ (λ (a b : List B). a ++ b) (e x (mathlib.Core.List.Memᴰ.head refl)) (gather_map f g h xs (λ y i. e y (mathlib.Core.List.Memᴰ.tail i))) ∙ sym (map_append h (f x) (gather f xs))

-- a list whose elements stay as they are
pub map_own : {A : Type 0} (g : A → A) (xs : List A) → ((x : A) → Memᴰ x xs → g x ≡ x) → map g xs ≡ xs
map_own g [] h = refl
map_own g (x ∷ xs) h = ap₂ ◌∷◌ (h x (mathlib.Core.List.Memᴰ.head refl)) (map_own g xs (λ y i. h y (mathlib.Core.List.Memᴰ.tail i)))

-- ---- `has`

not_has : (x : ℕ) (xs : List ℕ) → (Memᴰ x xs → ⊥) → has x xs ≡ false
not_has x xs h = by_test (λ b. b ≡ false) (has x xs) (λ e. absurd (h (has_in x xs e))) (λ e. refl)

pub has_keep : (n i : ℕ) (f : ℕ → Bool) → has i (keep n 0 f) ≡ ltb i n && f i
has_keep n i f =
    by_test (λ b. has i (keep n 0 f) ≡ b) (ltb i n && f i)
    (λ e. let both = and-true (ltb i n) (f i) e in in_has i (keep n 0 f) (keep_in n 0 i f (omega arith) (omega (arith, ltb-true i n both.0)) both.1))
    (λ e. not_has i (keep n 0 f) (λ j. let k = in_keep n 0 i f j in true≢false (sym (ap₂ (λ (a b : Bool). a && b) (lt-ltb i n (omega (arith, k.high))) k.test) ∙ e)))

-- ---- `firsts`

-- those met before stand in front
pub firsts_front : (seen xs : List ℕ) → (zs : List ℕ) × (firsts seen xs ≡ seen ++ zs)
unfolding firsts
firsts_front seen [] = ([], sym (append-nil seen))
firsts_front seen (x ∷ xs) =
    by_test (λ b. (zs : List ℕ) × (firsts (cond b seen (seen ++ (x ∷ []))) xs ≡ seen ++ zs)) (has x seen) (λ e. firsts_front seen xs)
    (λ e. let r = firsts_front (seen ++ (x ∷ [])) xs in (x ∷ r.0, r.1 ∙ append_assoc seen (x ∷ []) r.0))

pub firsts_tab : (n : ℕ) → firsts [] (tab n 0 (λ i. i)) ≡ tab n 0 (λ i. i)
firsts_tab zero = unfold firsts tab in refl
firsts_tab (suc n) =
    let xs = tab n 0 (λ (i : ℕ). i) in
    let new : has (0 + n) xs ≡ false = not_has (0 + n) xs (λ i. let r = in_tab n 0 (0 + n) i in omega arith) in
    ap (firsts []) (tab_snoc n 0 (λ i. i)) ∙ firsts_append [] xs ((0 + n) ∷ []) ∙ ap (λ (l : List ℕ). firsts l ((0 + n) ∷ [])) (firsts_tab n)
    ∙ firsts_new xs (0 + n) new ∙ sym (tab_snoc n 0 (λ i. i))

-- under a g that keeps the elements of `whole` apart
module _ (g : ℕ → ℕ) (whole : List ℕ) (apart : (x y : ℕ) → Memᴰ x whole → Memᴰ y whole → g x ≡ g y → x ≡ y) where
  has_map : (x : ℕ) (xs : List ℕ) → Memᴰ x whole → ((y : ℕ) → Memᴰ y xs → Memᴰ y whole) → has (g x) (map g xs) ≡ has x xs
  has_map x xs i h =
      by_test (λ b. has (g x) (map g xs) ≡ b) (has x xs) (λ e. in_has (g x) (map g xs) (map_in g xs (has_in x xs e)))
      (λ e. not_has (g x) (map g xs)
      (λ j. let p = in_map g xs (g x) j in true≢false (sym (in_has x xs (mathlib.Core.List.Memᴰ.cast (apart x p.0 i (h p.0 p.1) p.2) p.1)) ∙ e)))

  pub firsts_map : (seen xs : List ℕ) → ((y : ℕ) → Memᴰ y seen → Memᴰ y whole) → ((y : ℕ) → Memᴰ y xs → Memᴰ y whole) → firsts (map g seen) (map g xs) ≡ map g (firsts seen xs)
  unfolding firsts
  firsts_map seen [] hs hx = refl
  firsts_map seen (x ∷ xs) hs hx =
      let mine : Memᴰ x whole = hx x (mathlib.Core.List.Memᴰ.head refl) in
      let next : cond (has (g x) (map g seen)) (map g seen) (map g seen ++ (g x ∷ [])) ≡ map g (cond (has x seen) seen (seen ++ (x ∷ []))) =
      ap (λ (b : Bool). cond b (map g seen) (map g seen ++ (g x ∷ []))) (has_map x seen mine hs)
      ∙ by_test (λ b. cond b (map g seen) (map g seen ++ (g x ∷ [])) ≡ map g (cond b seen (seen ++ (x ∷ [])))) (has x seen) (λ e. refl) (λ e. sym (map_append g seen (x ∷ []))) in
      ap (λ (l : List ℕ). firsts l (map g xs)) next
      ∙ firsts_map (cond (has x seen) seen (seen ++ (x ∷ []))) xs
      (by_test (λ b. (y : ℕ) → Memᴰ y (cond b seen (seen ++ (x ∷ []))) → Memᴰ y whole) (has x seen) (λ e. hs)
      (λ e y i. ⊎_elim (λ s. hs y s) (λ s. mathlib.Core.List.Memᴰ.cast (mathlib.Core.List.Memᴰ.eq_of_singleton s) mine) (mathlib.Core.List.Memᴰ.append_cases seen i)))
      (λ y i. hx y (mathlib.Core.List.Memᴰ.tail i))
