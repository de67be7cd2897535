-- Checks 6 and 7 one instruction, one label a turn. Assumes nothing.
use Rattle.std.specs.Prelude.{◌≡◌, refl, Bool, true, false, cond, ◌||◌, ℕ, ◌+◌, ◌-◌, ◌/◌, ◌%◌, ◌^◌, ◌≤◌, ◌<◌, eqb, get_or, set, take, length, replicate, not, List, [], ◌∷◌, ◌++◌, Some, Result, Ok, Err}
use Rattle.std.proofs.Common.{sym, ap, ap₂, ◌∙◌, subst, add-one, arith, eq-eqb, ne_eqb, length-set, take-suc-set, take_all, get_or-set_same, get_or-set_other, append-nil}
use Rattle.std.proofs.lemmas.List.{length-replicate}
use Rattle.base.specs.Lists.{any, gather, has, keep, first_bad}
use Rattle.base.specs.GrowLaws.{gather_more, keep_snoc}
use Rattle.base.specs.ListLaws.{by_eq, copies_at}
use Rattle.base.specs.SearchLaws.{bad_start, bad_more, bad_stop, bad_end}
use Rattle.dataflow_domains.specs.Mask.{holds, union}
use Rattle.dataflow_domains.specs.MaskLaws.{bit_empty}
use Rattle.dataflow_domains.specs.HoldsLaws.{false_holds, holds_union, holds_single}
use Rattle.stackless_bytecode.specs.declared.Bytecode.{Bytecode}
use Rattle.stackless_bytecode.specs.Kinds.{Label, nop, at, label_of}
use Rattle.stackless_bytecode.specs.KindLaws.{one_label, other_label}
use Rattle.stackless_bytecode.specs.Slots.{label_places}
use Rattle.sheet.specs.Checks.{fresh}
use Rattle.sheet_labels.specs.Labelled.{seen_words, SeenBits, LabelLists, LabelsOf}

-- ---- the bitmap

pub seen_none : (w : ℕ) → SeenBits (replicate w 0) []
seen_none w = record { each = λ l h. ap (λ (x : ℕ). holds x (l % 64)) (copies_at w (l / 64) 0) ∙ false_holds 0 (l % 64) (bit_empty (l % 64)) }

or_end : (b : Bool) → b || false ≡ b
or_end true = refl
or_end false = refl

has_snoc : (x l : ℕ) (xs : List ℕ) → has x (xs ++ (l ∷ [])) ≡ has x xs || eqb x l
has_snoc x l [] = or_end (eqb x l)
has_snoc x l (y ∷ ys) = ap (λ (b : Bool). eqb x y || b) (has_snoc x l ys) ∙ or_assoc (eqb x y) (has x ys) (eqb x l)
  where
    or_assoc : (a b c : Bool) → a || (b || c) ≡ (a || b) || c
    or_assoc true b c = refl
    or_assoc false b c = refl

pub seen_more : {seen xs : List ℕ} → SeenBits seen xs → length seen ≡ seen_words → (l : ℕ) → l < 65536
    → SeenBits (set seen (l / 64) (union (get_or seen (l / 64) 0) (2 ^ (l % 64)))) (xs ++ (l ∷ []))
seen_more {seen} {xs} s size l h = record { each = λ x k. by_eq (x / 64) (l / 64) (here x k) (there x k) ∙ sym (has_snoc x l xs) }
  where
    word : ℕ
    word = union (get_or seen (l / 64) 0) (2 ^ (l % 64))

    -- the same digit of the same word is the same number
    same : (x : ℕ) → x / 64 ≡ l / 64 → eqb (x % 64) (l % 64) ≡ eqb x l
    same x e =
        by_eq x l (λ q. eq-eqb (x % 64) (l % 64) (ap (λ (y : ℕ). y % 64) q) ∙ sym (eq-eqb x l q))
        (λ g. ne_eqb (x % 64) (l % 64) (λ q. g (omega arith)) ∙ sym (ne_eqb x l g))

    here : (x : ℕ) → x < 65536 → x / 64 ≡ l / 64 → holds (get_or (set seen (l / 64) word) (x / 64) 0) (x % 64) ≡ has x xs || eqb x l
    here x k e =
        ap (λ (y : ℕ). holds (get_or (set seen (l / 64) word) y 0) (x % 64)) e
        ∙ ap (λ (y : ℕ). holds y (x % 64)) (get_or-set_same seen (l / 64) word 0 (omega arith))
        ∙ holds_union (get_or seen (l / 64) 0) (2 ^ (l % 64)) (x % 64)
        ∙ ap₂ (λ (a b : Bool). a || b) (ap (λ (y : ℕ). holds (get_or seen y 0) (x % 64)) (sym e) ∙ s.each x k) (holds_single (l % 64) (x % 64) ∙ same x e)

    there : (x : ℕ) → x < 65536 → (x / 64 ≡ l / 64 → ⊥) → holds (get_or (set seen (l / 64) word) (x / 64) 0) (x % 64) ≡ has x xs || eqb x l
    there x k g =
        ap (λ (y : ℕ). holds y (x % 64)) (get_or-set_other seen (l / 64) (x / 64) word 0 g) ∙ s.each x k
        ∙ sym (ap (λ (b : Bool). has x xs || b) (ne_eqb x l (λ q. g (ap (λ (y : ℕ). y / 64) q))) ∙ or_end (has x xs))

-- ---- the lists, one instruction more

pub labels_more : (code : List Bytecode) (k : ℕ) → k < length code → gather label_of (take (k + 1) code) ≡ gather label_of (take k code) ++ label_of (at code k)
labels_more code k h = gather_more label_of code k nop h

-- the offsets of the Labels among the first k instructions
abbrev pub places_to : List Bytecode → ℕ → List ℕ
places_to code k = keep k 0 (λ j. eqb (at code j).kind Label)

places_more : (code : List Bytecode) (k : ℕ) → places_to code (k + 1) ≡ places_to code k ++ cond (eqb (at code k).kind Label) (k ∷ []) []
places_more code k =
    let e : 0 + k ≡ k = omega arith in
    ap (places_to code) (add-one k) ∙ keep_snoc k 0 (λ j. eqb (at code j).kind Label)
    ∙ ap (λ (x : ℕ). places_to code k ++ cond (eqb (at code x).kind Label) (x ∷ []) []) e

-- one more at the end of a front
front_more : (xs : List ℕ) (m x : ℕ) → m < length xs → take (m + 1) (set xs m x) ≡ take m xs ++ (x ∷ [])
front_more xs m x h = ap (λ (n : ℕ). take n (set xs m x)) (add-one m) ∙ take-suc-set xs m x h

-- ---- what is known of the first k instructions

pub record Noted (code : List Bytecode) (k m : ℕ) (seen labels places : List ℕ) : Type 0 where
  pub few : m ≤ k
  pub seen_size : length seen ≡ seen_words
  pub numbers : SeenBits seen (gather label_of (take k code))
  pub names : take m labels ≡ gather label_of (take k code)
  pub offsets : take m places ≡ places_to code k

pub noted_none : (code : List Bytecode) (labels places : List ℕ) → Noted code 0 0 (replicate seen_words 0) labels places
unfolding keep
noted_none code labels places = record { few = omega arith; seen_size = length-replicate {A = ℕ} seen_words 0; numbers = seen_none seen_words; names = refl; offsets = refl }

module _ {code : List Bytecode} {k m : ℕ} {seen labels places : List ℕ} (h : Noted code k m seen labels places) (inside : k < length code) where
  pub noted_skip : eqb (at code k).kind Label ≡ false → Noted code (k + 1) m seen labels places
  noted_skip e = record {
    few = omega (arith, h.few);
    seen_size = h.seen_size;
    numbers = subst (λ (l : List ℕ). SeenBits seen l) (sym same) h.numbers;
    names = h.names ∙ sym same;
    offsets = h.offsets ∙ sym (places_more code k ∙ ap (λ (b : Bool). places_to code k ++ cond b (k ∷ []) []) e ∙ append-nil (places_to code k));
  }
    where
      same : gather label_of (take (k + 1) code) ≡ gather label_of (take k code)
      same = labels_more code k inside ∙ ap (λ (l : List ℕ). gather label_of (take k code) ++ l) (other_label (at code k) e) ∙ append-nil (gather label_of (take k code))

  pub noted_more : eqb (at code k).kind Label ≡ true → (l : ℕ) → l ≡ (at code k).one → l < 65536 → m < length labels → m < length places
      → Noted code (k + 1) (m + 1) (set seen (l / 64) (union (get_or seen (l / 64) 0) (2 ^ (l % 64)))) (set labels m l) (set places m k)
  noted_more e l is small hl hp = record {
    few = omega (arith, h.few);
    seen_size = length-set seen (l / 64) _ ∙ h.seen_size;
    numbers = subst (λ (xs : List ℕ). SeenBits (set seen (l / 64) (union (get_or seen (l / 64) 0) (2 ^ (l % 64)))) xs) (sym more) (seen_more h.numbers h.seen_size l small);
    names = front_more labels m l hl ∙ ap (λ (xs : List ℕ). xs ++ (l ∷ [])) h.names ∙ sym more;
    offsets = front_more places m k hp ∙ ap (λ (xs : List ℕ). xs ++ (k ∷ [])) h.offsets ∙ sym (places_more code k ∙ ap (λ (b : Bool). places_to code k ++ cond b (k ∷ []) []) e);
  }
    where
      more : gather label_of (take (k + 1) code) ≡ gather label_of (take k code) ++ (l ∷ [])
      more = labels_more code k inside ∙ ap (λ (xs : List ℕ). gather label_of (take k code) ++ xs) (one_label (at code k) e ∙ ap (λ (x : ℕ). x ∷ []) (sym is))

  -- the bitmap decides whether the next Label is fresh
  pub fresh_other : eqb (at code k).kind Label ≡ false → fresh code k ≡ true
  unfolding fresh
  fresh_other e = ap (λ (xs : List ℕ). not (any (λ l. has l (gather label_of (take k code))) xs)) (other_label (at code k) e)

  pub fresh_label : eqb (at code k).kind Label ≡ true → (l : ℕ) → l ≡ (at code k).one → l < 65536 → fresh code k ≡ not (holds (get_or seen (l / 64) 0) (l % 64))
  unfolding fresh
  fresh_label e l is small =
      ap (λ (xs : List ℕ). not (any (λ l. has l (gather label_of (take k code))) xs)) (one_label (at code k) e ∙ ap (λ (x : ℕ). x ∷ []) (sym is))
      ∙ ap not (or_end (has l (gather label_of (take k code))) ∙ sym (h.numbers.each l small))

-- at the end the lists are those of the code
pub noted_all : {code : List Bytecode} {k m : ℕ} {seen labels places : List ℕ} → Noted code k m seen labels places → k ≡ length code → LabelLists code (take m labels) (take m places)
unfolding label_places
noted_all {code} {k} h e = record {
  names = h.names ∙ ap (gather label_of) (take_all k code (omega arith));
  offsets = h.offsets ∙ ap (places_to code) e;
}

-- ---- the pass, before instruction k

pub record Pass (code : List Bytecode) (n : ℕ) (seen₀ labels₀ places₀ : List ℕ) (k m : ℕ) (seen labels places : List ℕ) : Type 0 where
  pub within : k ≤ n
  pub same_seen : length seen ≡ length seen₀
  pub same_labels : length labels ≡ length labels₀
  pub same_places : length places ≡ length places₀
  pub noted : Noted code k m seen labels places
  pub first : first_bad n 0 (fresh code) ≡ first_bad (n - k) k (fresh code)

pub pass_none : (code : List Bytecode) (n : ℕ) (seen labels places : List ℕ) → seen ≡ replicate seen_words 0 → Pass code n seen labels places 0 0 seen labels places
pass_none code n seen labels places e = record {
  within = omega arith;
  same_seen = refl;
  same_labels = refl;
  same_places = refl;
  noted = subst (λ (x : List ℕ). Noted code 0 0 x labels places) (sym e) (noted_none code labels places);
  first = bad_start n (fresh code);
}

module _ {code : List Bytecode} {n : ℕ} {seen₀ labels₀ places₀ : List ℕ} {k m : ℕ} {seen labels places : List ℕ} (p : Pass code n seen₀ labels₀ places₀ k m seen labels places) (size : length code ≡ n) (inside : k < n) where
  pub pass_skip : {m' : ℕ} {seen' labels' places' : List ℕ} → eqb (at code k).kind Label ≡ false → seen' ≡ seen → labels' ≡ labels → places' ≡ places → m' ≡ m
      → Pass code n seen₀ labels₀ places₀ (k + 1) m' seen' labels' places'
  pass_skip e a b c d =
      rw (a, b, c, d)
      (record {
        within = omega arith;
        same_seen = p.same_seen;
        same_labels = p.same_labels;
        same_places = p.same_places;
        noted = noted_skip p.noted (omega arith) e;
        first = p.first ∙ bad_more n k (fresh code) inside (fresh_other p.noted (omega arith) e);
      })

  module _ (e : eqb (at code k).kind Label ≡ true) (l : ℕ) (is : l ≡ (at code k).one) (small : l < 65536) where
    pub pass_stop : holds (get_or seen (l / 64) 0) (l % 64) ≡ true → first_bad n 0 (fresh code) ≡ Some k
    pass_stop t = p.first ∙ bad_stop n k (fresh code) inside (fresh_label p.noted (omega arith) e l is small ∙ ap not t)

    pub pass_more : {m' : ℕ} {seen' labels' places' : List ℕ} → holds (get_or seen (l / 64) 0) (l % 64) ≡ false → n ≤ length labels₀ → n ≤ length places₀
        → seen' ≡ set seen (l / 64) (union (get_or seen (l / 64) 0) (2 ^ (l % 64))) → labels' ≡ set labels m l → places' ≡ set places m k → m' ≡ m + 1
        → Pass code n seen₀ labels₀ places₀ (k + 1) m' seen' labels' places'
    pass_more t hl hp a b c d =
        rw (a, b, c, d)
        (record {
          within = omega arith;
          same_seen = length-set seen (l / 64) _ ∙ p.same_seen;
          same_labels = length-set labels m l ∙ p.same_labels;
          same_places = length-set places m k ∙ p.same_places;
          noted = noted_more p.noted (omega arith) e l is small (omega (arith, p.same_labels, p.noted.few)) (omega (arith, p.same_places, p.noted.few));
          first = p.first ∙ bad_more n k (fresh code) inside (fresh_label p.noted (omega arith) e l is small ∙ ap not t);
        })

-- ---- the answer

pub labels_repeated : {code : List Bytecode} {n k : ℕ} {labels places : List ℕ} → length code ≡ n → first_bad n 0 (fresh code) ≡ Some k → LabelsOf code (Err k) labels places
labels_repeated {code} {n} {k} size e = record {
  first = sym (ap (λ (x : ℕ). first_bad x 0 (fresh code)) size ∙ e);
  few = λ m q. absurd (never m q);
  listed = λ m q. absurd (never m q);
}
  where
    never : (m : ℕ) → ◌≡◌ {A = Result ℕ ℕ} (Err k) (Ok m) → ⊥
    never m q = let z : ◌≡◌ {A = ℕ} 0 1 = cc in omega arith

pub labels_count : {code : List Bytecode} {n : ℕ} {seen₀ labels₀ places₀ : List ℕ} {k m : ℕ} {seen labels places : List ℕ} → Pass code n seen₀ labels₀ places₀ k m seen labels places
    → length code ≡ n → n ≤ k → LabelsOf code (Ok m) labels places
labels_count {code} {n} {k = k} {m = m} {labels = labels} {places = places} p size end = record {
  first = sym (ap (λ (x : ℕ). first_bad x 0 (fresh code)) size ∙ p.first ∙ bad_end n k (fresh code) end);
  few = λ j q. let s : j ≡ m = cc in omega (arith, p.within, p.noted.few);
  listed = λ j q. let s : m ≡ j = cc in subst (λ (x : ℕ). LabelLists code (take x labels) (take x places)) s (noted_all p.noted (omega (arith, p.within)));
}
