-- Numbers in the order of first mention, one after the other: what `firsts` gives step by step, in lent arrays and in a `Numbering`. Assumes nothing.
use Rattle.std.specs.Prelude.{◌≡◌, refl, ◌≢◌, Bool, true, false, ◌||◌, ℕ, suc, ◌+◌, ◌-◌, ◌≤◌, ◌<◌, get_or, set, length, take, replicate, cond, List, [], ◌∷◌, ◌++◌, Option, Some, None}
use Rattle.std.proofs.Common.{sym, ap₂, ◌∙◌, subst, ⊎_elim, true≢false, add-one, eq-eqb, ne_eqb, length-set, length-take-le, take-suc, take-suc-set, get_or-set_same, get_or-set_other, ap, arith}
use mathlib.Core.List.Memᴰ
use mathlib.Core.List.{Memᴰ}
use Rattle.std.proofs.lemmas.List.{length-replicate}
use Rattle.std.specs.Option.{SomeIff}
use Rattle.base.specs.Sizes.{max_number}
use Rattle.base.specs.Lists.{has, place, firsts, Distinct}
use Rattle.base.specs.ListLaws.{by_test, by_eq, get_d_in, in_has, place_lt, firsts_distinct, copies_at}
use Rattle.base.specs.GrowLaws.{has_append, place_front, place_end, firsts_append, firsts_old, firsts_new, below_few}
use Rattle.base.specs.Numbering.{number_in, Numbers, Gives, number_of, kept_of, Numbered}

-- ---- `number_in`

module _ (first : ℕ) (xs : List ℕ) (x : ℕ) where
  -- one that is not in the list has none
  pub number_none : has x xs ≡ false → number_in first xs x ≡ 0
  unfolding number_in
  number_none e = ap (λ (b : Bool). cond b (first + place x xs) 0) e

  -- one that is in the list has that of its place
  pub number_some : has x xs ≡ true → number_in first xs x ≡ first + place x xs
  unfolding number_in
  number_some e = ap (λ (b : Bool). cond b (first + place x xs) 0) e

-- what is behind the list takes the next number
pub number_new : (first : ℕ) (xs : List ℕ) (x : ℕ) → has x xs ≡ false → number_in first (xs ++ (x ∷ [])) x ≡ first + length xs
number_new first xs x e =
    number_some first (xs ++ (x ∷ [])) x (has_append x xs (x ∷ []) ∙ ap₂ (λ (a b : Bool). a || (b || false)) e (eq-eqb x x refl))
    ∙ ap (λ (n : ℕ). first + n) (place_end x xs e)

-- the others keep theirs
pub number_kept : (first : ℕ) (xs : List ℕ) (x y : ℕ) → y ≢ x → number_in first (xs ++ (x ∷ [])) y ≡ number_in first xs y
unfolding number_in
number_kept first xs x y g =
    ap (λ (b : Bool). cond b (first + place y (xs ++ (x ∷ []))) 0) (has_append y xs (x ∷ []) ∙ ap (λ (b : Bool). has y xs || (b || false)) (ne_eqb y x g))
    ∙ by_test (λ b. has y xs ≡ b → cond (b || false) (first + place y (xs ++ (x ∷ []))) 0 ≡ cond b (first + place y xs) 0) (has y xs)
    (λ e q. ap (λ (n : ℕ). first + n) (place_front y xs (x ∷ []) e)) (λ e q. refl) refl

-- ---- none yet

-- where every place of `numbers` is 0, none have numbers
pub give_start : (first : ℕ) (numbers order : List ℕ) → ((x : ℕ) → get_or numbers x 0 ≡ 0) → Gives first [] numbers order 0 numbers order 0
unfolding firsts
give_start first numbers order z = record {
  given = record { each = λ x h. z x ∙ sym (number_none first [] x refl); once = Distinct.empty; within = λ x i. absurd (Memᴰ.not-nil i); inside = omega arith };
  front = refl;
}

-- where none are to get one, all stays as it is
pub give_nothing : (first : ℕ) (numbers order : List ℕ) (c : ℕ) → Numbers first numbers order c → Gives first [] numbers order c numbers order c
unfolding firsts
give_nothing first numbers order c k = record { given = k; front = refl }

-- ---- one

module _ (first : ℕ) (numbers order : List ℕ) (c x : ℕ) (k : Numbers first numbers order c) (some : 0 < first) (h : x < length numbers) where
  size : length (take c order) ≡ c
  size = length-take-le c order k.inside

  -- one that has a number keeps it, and nothing changes
  pub give_old : (get_or numbers x 0 ≡ 0 → ⊥) → Gives first (x ∷ []) numbers order c numbers order c
  give_old g = record { given = k; front = sym (firsts_old (take c order) x has_number) }
    where
      has_number : has x (take c order) ≡ true
      has_number = by_test (λ b. has x (take c order) ≡ b → b ≡ true) (has x (take c order)) (λ e q. refl) (λ e q. absurd (g (k.each x h ∙ number_none first (take c order) x e))) refl

  module _ (z : get_or numbers x 0 ≡ 0) where
    none_yet : has x (take c order) ≡ false
    none_yet =
        by_test (λ b. has x (take c order) ≡ b → b ≡ false) (has x (take c order))
        (λ e q. absurd (omega (arith, number_some first (take c order) x e, k.each x h))) (λ e q. refl) refl

    -- where one has none yet, there is room for one more
    pub give_room : c < length numbers
    give_room =
        omega (arith, size, below_few {xs = x ∷ take c order} (length numbers) (Distinct.one (λ i. true≢false (sym (in_has x (take c order) i) ∙ none_yet)) k.once) (λ y i. ⊎_elim (λ e. omega arith) (λ t. k.within y t) (Memᴰ.cases_cons i)))

    -- one that has none yet takes the next number, and the next place of `order`
    pub give_new : (w v : ℕ) → w ≡ first + c → v ≡ x → length numbers ≤ length order → Gives first (x ∷ []) numbers order c (set numbers x w) (set order c v) (c + 1)
    give_new w v ew ev room = rw (ew, ev) (record {
      given = record { each = each; once = subst (λ (l : List ℕ). Distinct l) (sym after) (firsts_distinct (take c order) (x ∷ []) k.once); within = within; inside = omega (arith, length-set order c x, give_room) };
      front = after;
    })
      where
        grown : take (c + 1) (set order c x) ≡ take c order ++ (x ∷ [])
        grown = ap (λ (n : ℕ). take n (set order c x)) (add-one c) ∙ take-suc-set order c x (omega (arith, give_room))

        after : take (c + 1) (set order c x) ≡ firsts (take c order) (x ∷ [])
        after = grown ∙ sym (firsts_new (take c order) x none_yet)

        each : (y : ℕ) → y < length (set numbers x (first + c)) → get_or (set numbers x (first + c)) y 0 ≡ number_in first (take (c + 1) (set order c x)) y
        each y l =
            by_eq y x
            (λ e. ap (λ (i : ℕ). get_or (set numbers x (first + c)) i 0) e ∙ get_or-set_same numbers x (first + c) 0 h ∙ ap (λ (n : ℕ). first + n) (sym size) ∙ sym (number_new first (take c order) x none_yet) ∙ ap₂ (number_in first) (sym grown) (sym e))
            (λ g. get_or-set_other numbers x y (first + c) 0 g ∙ k.each y (omega (arith, length-set numbers x (first + c))) ∙ sym (number_kept first (take c order) x y g) ∙ ap (λ (l : List ℕ). number_in first l y) (sym grown))

        within : (y : ℕ) → Memᴰ y (take (c + 1) (set order c x)) → y < length (set numbers x (first + c))
        within y i = ⊎_elim (λ s. omega (arith, k.within y s, length-set numbers x (first + c))) (λ s. omega (arith, Memᴰ.eq_of_singleton s, length-set numbers x (first + c))) (Memᴰ.append_cases (take c order) (subst (λ (l : List ℕ). Memᴰ y l) grown i))

-- ---- one after the other

-- numbers for xs, then for ys: those for both lists, one behind the other
pub give_then : {first : ℕ} (xs ys : List ℕ) {numbers order numbers' order' numbers'' order'' : List ℕ} {c r r' : ℕ} → Gives first xs numbers order c numbers' order' r → Gives first ys numbers' order' r numbers'' order'' r' → Gives first (xs ++ ys) numbers order c numbers'' order'' r'
give_then xs ys {order = order} {c = c} g h = record {
  given = h.given;
  front = h.front ∙ ap (λ (l : List ℕ). firsts l ys) g.front ∙ sym (firsts_append (take c order) xs ys);
}

-- numbers for the first i of a list, then for the next: those for the first i + 1
pub give_next : {first : ℕ} (xs : List ℕ) (i x : ℕ) {numbers order numbers' order' numbers'' order'' : List ℕ} {c r r' : ℕ} → Gives first (take i xs) numbers order c numbers' order' r → Gives first (x ∷ []) numbers' order' r numbers'' order'' r'
    → i < length xs → x ≡ get_or xs i 0 → Gives first (take (i + 1) xs) numbers order c numbers'' order'' r'
give_next xs i x g k h e = rw (add-one i, take-suc xs i 0 h, ← e) (give_then (take i xs) (x ∷ []) g k)

-- ---- a `Numbering`: what is kept for each

module _ (first : ℕ) (xs : List ℕ) (x : ℕ) where
  pub kept_none : has x xs ≡ false → kept_of first xs x ≡ 0
  unfolding kept_of
  kept_none e = ap (λ (b : Bool). cond b (suc (first + place x xs)) 0) e

  pub kept_some : has x xs ≡ true → kept_of first xs x ≡ suc (first + place x xs)
  unfolding kept_of
  kept_some e = ap (λ (b : Bool). cond b (suc (first + place x xs)) 0) e

-- it is the number that is one higher
kept_is : (first : ℕ) (xs : List ℕ) (x : ℕ) → kept_of first xs x ≡ number_in (first + 1) xs x
unfolding kept_of number_in
kept_is first xs x = ap (λ (k : ℕ). cond (has x xs) k 0) (omega arith)

module _ {first n : ℕ} {numbers order : List ℕ} {c : ℕ} where
  -- its arrays have numbers from the one after `first` on
  pub numbered_numbers : Numbered first n numbers order c → Numbers (first + 1) numbers order c
  numbered_numbers ok = record {
    each = λ x h. ok.each x (omega (arith, h, ok.room)) ∙ kept_is first (take c order) x;
    once = ok.once;
    within = λ x i. omega (arith, ok.within x i, ok.room);
    inside = omega (arith, ok.inside, ok.places);
  }

  -- arrays of its size that have such numbers are what it holds
  pub numbers_numbered : Numbers (first + 1) numbers order c → length numbers ≡ n → length order ≡ n → first + n ≤ max_number → Numbered first n numbers order c
  numbers_numbered k room places few = record {
    each = λ x h. k.each x (omega (arith, h, room)) ∙ sym (kept_is first (take c order) x);
    once = k.once;
    within = λ x i. omega (arith, k.within x i, room);
    inside = omega (arith, k.inside, places);
    room = room;
    places = places;
    few = few;
  }

-- ---- a `Numbering`: none have numbers yet

pub numbered_none : (first n : ℕ) → first + n ≤ max_number → Numbered first n (replicate n 0) (replicate n 0) 0
numbered_none first n few = record {
  each = λ x h. copies_at n x 0 ∙ sym (kept_none first [] x refl);
  once = Distinct.empty;
  within = λ x i. absurd (Memᴰ.not-nil i);
  inside = omega arith;
  room = length-replicate {A = ℕ} n 0;
  places = length-replicate {A = ℕ} n 0;
  few = few;
}

-- ---- the next number to x, where it has none yet

module _ {first n : ℕ} {numbers order : List ℕ} {c x : ℕ} (ok : Numbered first n numbers order c) (h : x < n) where
  kept : get_or numbers x 0 ≡ kept_of first (take c order) x
  kept = ok.each x h

  inside : x < length numbers
  inside = omega (arith, h, ok.room)

  some : 0 < first + 1
  some = omega arith

  pub numbered_old : (get_or numbers x 0 ≡ 0 → ⊥) → take c order ≡ firsts (take c order) (x ∷ [])
  numbered_old g = (give_old (first + 1) numbers order c x (numbered_numbers ok) some inside g).front

  module _ (z : get_or numbers x 0 ≡ 0) where
    pub numbered_room : c < n
    numbered_room = omega (arith, give_room (first + 1) numbers order c x (numbered_numbers ok) some inside z, ok.room)

    given : Gives (first + 1) (x ∷ []) numbers order c (set numbers x (first + (c + 1))) (set order c x) (c + 1)
    given = give_new (first + 1) numbers order c x (numbered_numbers ok) some inside z (first + (c + 1)) x (omega arith) refl (omega (arith, ok.room, ok.places))

    pub numbered_front : take (c + 1) (set order c x) ≡ firsts (take c order) (x ∷ [])
    numbered_front = given.front

    pub numbered_new : Numbered first n (set numbers x (first + (c + 1))) (set order c x) (c + 1)
    numbered_new =
        numbers_numbered given.given (length-set numbers x (first + (c + 1)) ∙ ok.room) (length-set order c x ∙ ok.places) ok.few

  -- the number of x is one less than what is kept
  pub numbered_number : (r : Option ℕ) → SomeIff r (1 ≤ get_or numbers x 0) (get_or numbers x 0 - 1) → r ≡ number_of first (take c order) x
  unfolding number_of
  numbered_number None s =
      by_test (λ b. None ≡ cond b (Some (first + place x (take c order))) None) (has x (take c order))
      (λ t. absurd (s (omega (arith, kept, kept_some first (take c order) x t)))) (λ f. refl)
  numbered_number (Some k) s =
      by_test (λ b. Some k ≡ cond b (Some (first + place x (take c order))) None) (has x (take c order))
      (λ t. ap Some (omega (arith, s.0, s.1, kept, kept_some first (take c order) x t)))
      (λ f. absurd (omega (arith, s.0, kept, kept_none first (take c order) x f)))

-- ---- those that have numbers

module _ {first n : ℕ} {numbers order : List ℕ} {c : ℕ} {xs : List ℕ} (ok : Numbered first n numbers order c) (seen : take c order ≡ xs) where
  there : {x : ℕ} → Memᴰ x xs → Memᴰ x (take c order)
  there {x} i = subst (λ (l : List ℕ). Memᴰ x l) (sym seen) i

  pub order_below : (i : ℕ) → i < length xs → get_or xs i 0 < n
  order_below i h = ok.within (get_or xs i 0) (there (get_d_in xs i 0 h))

  module _ {at x : ℕ} (i : Memᴰ x xs) (e : at ≡ x) where
    pub known_is : get_or numbers at 0 ≡ suc (first + place x xs)
    known_is =
        ap (λ (k : ℕ). get_or numbers k 0) e ∙ ok.each x (ok.within x (there i)) ∙ kept_some first (take c order) x (in_has x (take c order) (there i))
        ∙ ap (λ (l : List ℕ). suc (first + place x l)) seen

    pub known_below : place x xs < n
    known_below = omega (arith, place_lt x xs i, ap length seen, length-take-le c order (omega (arith, ok.inside, ok.places)), ok.inside)

pub number_in_list : (first : ℕ) (xs : List ℕ) (x : ℕ) → Memᴰ x xs → number_of first xs x ≡ Some (first + place x xs)
unfolding number_of
number_in_list first xs x i = ap (λ (b : Bool). cond b (Some (first + place x xs)) None) (in_has x xs i)
