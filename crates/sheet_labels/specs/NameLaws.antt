-- Check 7: the search for a label, one label a turn, and the search for a missing one, one slot a turn. Assumes nothing.
use Rattle.std.specs.Prelude.{◌≡◌, refl, Bool, ◌||◌, ℕ, zero, suc, ◌+◌, ◌-◌, ◌*◌, ◌/◌, ◌≤◌, ◌<◌, set, take, length, true, false, cond, List, ◌∷◌, eqb, get_or, drop, Some, None}
use Rattle.std.proofs.Common.{sym, ap₂, ◌∙◌, subst, true≢false, add-one, arith, length-set, drop_of_length-le, get_or-set_same, get_or-set_other, ap, eq-eqb, ne_eqb, drop-cons}
use mathlib.Core.List.{Memᴰ}
use Rattle.base.specs.Lists.{gather, has, place, first_bad}
use Rattle.base.specs.ListLaws.{by_eq, or-false, has_in}
use Rattle.base.specs.SearchLaws.{bad_start, bad_more, bad_stop, bad_end}
use Rattle.stackless_bytecode.specs.declared.Bytecode.{Bytecode}
use Rattle.stackless_bytecode.specs.Kinds.{at, branch_dests, label_of}
use Rattle.stackless_bytecode.specs.declared.Lookup.TheVariants as lookups
use Rattle.stackless_bytecode.specs.Labels.{lookup, is_defined, label_offset}
use Rattle.stackless_bytecode.specs.LookupLaws.{is_defined_lem, defined, named_at}
use Rattle.stackless_bytecode.specs.Slots.{no_label, slot_at, named, halved}
use Rattle.stackless_bytecode.specs.SlotLaws.{LabelsBelow, slot_names, slots_first, offset_place, places_length}
use Rattle.sheet.specs.Checks.{names_ok}
use Rattle.sheet_labels.specs.Labelled.{LabelLists, Search, Named}

-- ---- one label a turn

pub search_none : (labels : List ℕ) (l : ℕ) → Search labels l 0
search_none labels l = record { within = omega arith; rest = refl; at_rest = omega arith }

module _ {labels : List ℕ} {l j : ℕ} (s : Search labels l j) where
  pub search_more : j < length labels → (get_or labels j 0 ≡ l → ⊥) → Search labels l (j + 1)
  unfolding place
  search_more h g =
      let split : drop j labels ≡ get_or labels j 0 ∷ drop (j + 1) labels = drop-cons labels j 0 h ∙ ap (λ (x : ℕ). get_or labels j 0 ∷ drop x labels) (sym (add-one j)) in
      let differ : eqb l (get_or labels j 0) ≡ false = ne_eqb l (get_or labels j 0) (λ e. g (sym e)) in
      record {
        within = omega arith;
        rest = s.rest ∙ ap (has l) split ∙ ap (λ (b : Bool). b || has l (drop (j + 1) labels)) differ;
        at_rest = omega (arith, s.at_rest, ap (place l) split ∙ ap (λ (b : Bool). cond b 0 (suc (place l (drop (j + 1) labels)))) differ);
      }

  pub search_found : j < length labels → get_or labels j 0 ≡ l → (has l labels ≡ true) × (place l labels ≡ j)
  unfolding place
  search_found h e =
      let split = drop-cons labels j 0 h in
      let same : eqb l (get_or labels j 0) ≡ true = eq-eqb l (get_or labels j 0) (sym e) in
      (s.rest ∙ ap (has l) split ∙ ap (λ (b : Bool). b || has l (drop (suc j) labels)) same, omega (arith, s.at_rest, ap (place l) split ∙ ap (λ (b : Bool). cond b 0 (suc (place l (drop (suc j) labels)))) same))

  pub search_end : length labels ≤ j → has l labels ≡ false
  search_end h = s.rest ∙ ap (has l) (drop_of_length-le labels h)

has_neither : (l x : ℕ) (xs : List ℕ) → has l (x ∷ xs) ≡ false → (eqb l x ≡ false) × (has l xs ≡ false)
has_neither l x xs e = or-false (eqb l x) (has l xs) e

-- nor any of the n behind them
pub search_part : (n : ℕ) {labels : List ℕ} {l j : ℕ} → Search labels l j → j + n ≤ length labels → has l (take n (drop j labels)) ≡ false → Search labels l (j + n)
search_part zero s h e = subst (Search _ _) (omega arith) s
search_part (suc n) {labels} {l} {j} s h e =
    let split : drop j labels ≡ get_or labels j 0 ∷ drop (j + 1) labels = drop-cons labels j 0 (omega arith) ∙ ap (λ (x : ℕ). get_or labels j 0 ∷ drop x labels) (sym (add-one j)) in
    let both = has_neither l (get_or labels j 0) (take n (drop (j + 1) labels)) (sym (ap (λ (x : List ℕ). has l (take (suc n) x)) split) ∙ e) in
    let more = search_part n (search_more s (omega arith) (λ q. true≢false (sym (eq-eqb l (get_or labels j 0) (sym q)) ∙ both.0))) (omega arith) both.1 in
    subst (Search _ _) (omega arith) more

-- ---- a list looked through

-- what is found so far, or stands behind
pub list_more : (l : ℕ) (p : List ℕ) (i : ℕ) (found : Bool) → i < length p → has l p ≡ found || has l (drop i p) → has l p ≡ (found || eqb l (get_or p i 0)) || has l (drop (i + 1) p)
list_more l p i found h e = e ∙ ap (λ (x : List ℕ). found || has l x) (drop-cons p i 0 h) ∙ or_assoc found _ _ ∙ ap (λ (x : ℕ). (found || eqb l (get_or p i 0)) || has l (drop x p)) (sym (add-one i))
  where
    or_assoc : (a b c : Bool) → a || (b || c) ≡ (a || b) || c
    or_assoc true b c = refl
    or_assoc false b c = refl

pub list_end : (l : ℕ) (p : List ℕ) (i : ℕ) (found : Bool) → length p ≤ i → has l p ≡ found || has l (drop i p) → found ≡ has l p
list_end l p i found h e = sym (e ∙ ap (λ (x : List ℕ). found || has l x) (drop_of_length-le p h) ∙ or_none found)
  where
    or_none : (a : Bool) → a || false ≡ a
    or_none true = refl
    or_none false = refl

-- ---- one slot a turn

-- the first e slots are in order, and those that name a label have its offset
pub record Slots (code : List Bytecode) (n : ℕ) (targets₀ targets : List ℕ) (e : ℕ) : Type 0 where
  pub within : e ≤ 2 * n
  pub same : length targets ≡ length targets₀
  pub first : first_bad (2 * n) 0 (λ d. named (λ l. is_defined (lookup code l)) (slot_at code d)) ≡ first_bad (2 * n - e) e (λ d. named (λ l. is_defined (lookup code l)) (slot_at code d))
  pub each : (d : ℕ) → d < e → slot_at code d < no_label → lookup code (slot_at code d) ≡ lookups.Named (get_or targets d 0)

pub slots_none : (code : List Bytecode) (n : ℕ) (targets : List ℕ) → Slots code n targets targets 0
slots_none code n targets = record { within = omega arith; same = refl; first = bad_start (2 * n) _; each = λ d h. absurd (omega arith) }

module _ {code : List Bytecode} {n : ℕ} {targets₀ targets : List ℕ} {e : ℕ} (s : Slots code n targets₀ targets e) (inside : e < 2 * n) (l : ℕ) (is : slot_at code e ≡ l) where
  pub slots_skip : l ≡ no_label → Slots code n targets₀ targets (e + 1)
  unfolding named
  slots_skip q = record {
    within = omega arith;
    same = s.same;
    first = s.first ∙ bad_more (2 * n) e _ inside (ap (λ (b : Bool). b || is_defined (lookup code (slot_at code e))) (eq-eqb (slot_at code e) no_label (is ∙ q)));
    each = λ d h b. by_eq d e (λ p. absurd (omega (arith, ap (slot_at code) p))) (λ g. s.each d (omega arith) b);
  }

  module _ (some-label : l ≡ no_label → ⊥) where
    named_is : named (λ l. is_defined (lookup code l)) (slot_at code e) ≡ has l (gather label_of code)
    unfolding named
    named_is =
        ap (named (λ l. is_defined (lookup code l))) is ∙ ap (λ (b : Bool). b || is_defined (lookup code l)) (ne_eqb l no_label some-label)
        ∙ is_defined_lem code l

    pub slots_found : {labels places : List ℕ} → LabelLists code labels places → (j : ℕ) → Search labels l j → j < length labels → get_or labels j 0 ≡ l
        → e < length targets → Slots code n targets₀ (set targets e (get_or places j 0)) (e + 1)
    slots_found {labels} {places} lists j search h q room = record {
      within = omega arith;
      same = length-set targets e _ ∙ s.same;
      first = s.first ∙ bad_more (2 * n) e _ inside (named_is ∙ there);
      each = λ d k b. by_eq d e (λ p. here d p) (λ g. s.each d (omega arith) b ∙ sym (ap lookups.Named (get_or-set_other targets e d _ 0 g)));
    }
      where
        found : (has l labels ≡ true) × (place l labels ≡ j)
        found = search_found search h q

        there : has l (gather label_of code) ≡ true
        there = ap (has l) (sym lists.names) ∙ found.0

        names : (e / 2 < length code) × Memᴰ l (branch_dests (at code (e / 2)))
        names = slot_names code e l is some-label

        place_is : label_offset code l ≡ get_or places j 0
        place_is =
            offset_place code l (has_in l (gather label_of code) there)
            ∙ ap₂ (λ (x : List ℕ) (y : ℕ). get_or x y 0) (sym lists.offsets) (sym (ap (place l) lists.names) ∙ found.1)

        here : (d : ℕ) → d ≡ e → lookup code (slot_at code d) ≡ lookups.Named (get_or (set targets e (get_or places j 0)) d 0)
        here d p =
            ap (λ (x : ℕ). lookup code (slot_at code x)) p ∙ ap (lookup code) is
            ∙ named_at code (e / 2) l names.0 names.1 (defined code l (is_defined_lem code l ∙ there)) ∙ ap lookups.Named place_is
            ∙ sym (ap lookups.Named (ap (λ (x : ℕ). get_or (set targets e (get_or places j 0)) x 0) p ∙ get_or-set_same targets e _ 0 room))

    pub slots_missing : has l (gather label_of code) ≡ false → first_bad (2 * n) 0 (λ d. named (λ l. is_defined (lookup code l)) (slot_at code d)) ≡ Some e
    slots_missing q = s.first ∙ bad_stop (2 * n) e _ inside (named_is ∙ q)

pub listed_length : {code : List Bytecode} {labels places : List ℕ} → LabelLists code labels places → length places ≡ length labels
listed_length {code} h = ap length h.offsets ∙ places_length code ∙ sym (ap length h.names)

-- ---- the answer

module _ (code : List Bytecode) (n : ℕ) (below : (k : ℕ) → k < n → LabelsBelow (at code k)) where
  names_first : first_bad n 0 (λ k. names_ok code (at code k)) ≡ halved (first_bad (2 * n) 0 (λ d. named (λ l. is_defined (lookup code l)) (slot_at code d)))
  unfolding names_ok
  names_first = slots_first code (λ l. is_defined (lookup code l)) n below

  pub named_missing : {targets : List ℕ} {e : ℕ} → first_bad (2 * n) 0 (λ d. named (λ l. is_defined (lookup code l)) (slot_at code d)) ≡ Some e → Named code n (Some (e / 2)) targets
  named_missing q = record { first = sym (names_first ∙ ap halved q); resolved = λ z. absurd (let y : ◌≡◌ {A = ℕ} 0 1 = cc in omega arith) }

  pub named_all : {targets₀ targets : List ℕ} {e : ℕ} → Slots code n targets₀ targets e → length code ≡ n → 2 * n ≤ e → Named code n None targets
  named_all {e = e} s size end = record {
    first = sym (names_first ∙ ap halved (s.first ∙ bad_end (2 * n) e _ end));
    resolved = λ z. record { each = λ d h b. s.each d (omega arith) b };
  }
