-- The Labels that nobody names: the marks slot by slot, and the line as the code writes it. Assumes nothing.
use Rattle.std.specs.Prelude.{◌≡◌, refl, Bool, true, false, cond, not, ◌&&◌, ℕ, ◌+◌, ◌*◌, ◌/◌, ◌%◌, ◌≤◌, ◌<◌, eqb, get_or, set, take, drop, List, [], ◌∷◌, ◌++◌, length, codes, decimal, zero, suc, slice_get, Option, Some, None, is_some, unwrap_or}
use Rattle.std.proofs.Common.{sym, ap, ◌∙◌, subst, true≢false, ⊎_elim, arith, eq-eqb, ne_eqb, length-append, take-append-drop, get_or-set_same, get_or-set_other, take_all, append-nil}
use mathlib.Core.List.{Memᴰ}
use Rattle.std.proofs.lemmas.Option.{get_or_from_slice_get, unwrap_or-slice_get}
use Rattle.base.specs.Lists.{gather}
use Rattle.base.specs.ListLaws.{by_test, by_eq, in_get_d}
use Rattle.base.specs.GrowLaws.{gather_append, gather_more}
use Rattle.stackless_bytecode.specs.declared.Bytecode.{Bytecode}
use Rattle.stackless_bytecode.specs.declared.Lookup.TheVariants.{Named}
use Rattle.stackless_bytecode.specs.Kinds.{Label, nop, at, branch_dests, label_of}
use Rattle.stackless_bytecode.specs.KindLaws.{by_dests, label_one}
use Rattle.stackless_bytecode.specs.Labels.{lookup, offset_of, is_named, is_defined, label_offset}
use Rattle.stackless_bytecode.specs.LookupLaws.{named_by, offset_is, defined}
use Rattle.stackless_bytecode.specs.Slots.{no_label, slot_at, Resolved}
use Rattle.stackless_bytecode.specs.SlotLaws.{LabelsBelow, slot_names}
use Rattle.stackless_bytecode.specs.Successors.{Unique}
use Rattle.sheet.specs.declared.accepted.ResolvedSheet.{ResolvedSheet}
use Rattle.sheet.specs.Code.{code_in}
use Rattle.sheet.specs.LabelLaws.{code_below}
use Rattle.sheet.specs.ValidLaws.{accepted_valid}
use Rattle.listing.specs.Words.{said}
use Rattle.pages.specs.Page.{unnamed_text, unnamed_labels}
use Rattle.pages.specs.Marks.{MarkedTo, NamedMarks, is_unmarked, unmarked_text, unnamed_to}

-- ---- what one instruction names

dests_below : (r : Bytecode) (l : ℕ) → LabelsBelow r → Memᴰ l (branch_dests r) → l < no_label
dests_below r l below =
    by_dests (λ xs. Memᴰ l xs → l < no_label) r
    (λ m. ⊎_elim (λ e. omega (arith, below.one)) (λ n. omega (arith, below.two, mathlib.Core.List.Memᴰ.eq_of_singleton n)) (mathlib.Core.List.Memᴰ.cases_cons m))
    (λ m. omega (arith, below.one, mathlib.Core.List.Memᴰ.eq_of_singleton m)) (λ m. absurd (mathlib.Core.List.Memᴰ.not-nil m))

dests_few : (r : Bytecode) → length (branch_dests r) ≤ 2
dests_few r = by_dests (λ xs. length xs ≤ 2) r (omega arith) (omega arith) (omega arith)

-- what stands at a place of a list is in it
slice_get_in : (xs : List ℕ) (i l : ℕ) → slice_get xs i ≡ Some l → Memᴰ l xs
slice_get_in [] i l q = absurd (let z : ◌≡◌ {A = ℕ} 0 1 = cc in omega arith)
slice_get_in (x ∷ xs) zero l q = mathlib.Core.List.Memᴰ.head (let e : l ≡ x = cc in e)
slice_get_in (x ∷ xs) (suc i) l q = mathlib.Core.List.Memᴰ.tail (slice_get_in xs i l q)

some_value : (o : Option ℕ) → is_some o ≡ true → (l : ℕ) × (o ≡ Some l)
some_value (Some l) q = (l, refl)
some_value None q = absurd (true≢false (sym q))

no_value : (o : Option ℕ) → is_some o ≡ false → o ≡ None
no_value (Some l) q = absurd (true≢false q)
no_value None q = refl

-- ---- marks, slot by slot

-- each name has its slot
name_slot : (code : List Bytecode) (k l : ℕ) → k < length code → Memᴰ l (branch_dests (at code k)) → (e : ℕ) × (e < 2 * length code) × (slot_at code e ≡ l)
unfolding slot_at
name_slot code k l h i =
    let p = in_get_d (branch_dests (at code k)) l no_label i in
    let few : p.0 < 2 = omega (arith, dests_few (at code k), p.1) in
    let a : (2 * k + p.0) / 2 ≡ k = omega arith in
    let b : (2 * k + p.0) % 2 ≡ p.0 = omega arith in
    (2 * k + p.0, omega arith, ap (λ (x : ℕ). get_or (branch_dests (at code x)) ((2 * k + p.0) % 2) no_label) a ∙ ap (λ (x : ℕ). get_or (branch_dests (at code k)) x no_label) b ∙ p.2)

module _ (code : List Bytecode) (below : (k : ℕ) → k < length code → LabelsBelow (at code k)) (targets : List ℕ) (resolved : Resolved code targets) where
  module _ (e : ℕ) (h : e < 2 * length code) where
    slot_named : (slot_at code e ≡ no_label → ⊥) → lookup code (slot_at code e) ≡ Named (get_or targets e 0)
    slot_named g = let n = slot_names code e (slot_at code e) refl g in resolved.each e h (dests_below (at code (e / 2)) (slot_at code e) (below (e / 2) n.0) n.1)

    -- a label is named at an offset of the code
    target_inside : (slot_at code e ≡ no_label → ⊥) → get_or targets e 0 < length code
    target_inside g = let is = slot_named g in omega (arith, (defined code (slot_at code e) (ap is_defined is)).inside, ap offset_of is)

    -- it names nothing, and it names a label
    names_skip : {marks : List Bool} → slot_at code e ≡ no_label → MarkedTo code targets e marks → MarkedTo code targets (e + 1) marks
    names_skip q m = record { sound = m.sound; done = λ i d l. by_eq i e (λ s. absurd (omega (arith, q, ap (slot_at code) s))) (λ s. m.done i (omega arith) l) }

    names_put : {marks : List Bool} → (slot_at code e ≡ no_label → ⊥) → length code ≤ length marks → MarkedTo code targets e marks → MarkedTo code targets (e + 1) (set marks (get_or targets e 0) true)
    names_put {marks} named room m =
        let o = get_or targets e 0 in
        let inside : o < length marks = omega (arith, target_inside named) in
        record {
          sound = λ j t. by_eq j o (λ s. (slot_at code e, slot_named named ∙ ap Named (sym s))) (λ s. m.sound j (sym (get_or-set_other marks o j true false s) ∙ t));
          done = λ i d l. by_eq (get_or targets i 0) o (λ s. ap (λ (x : ℕ). get_or (set marks o true) x false) s ∙ get_or-set_same marks o true false inside)
              (λ s. get_or-set_other marks o (get_or targets i 0) true false s ∙ by_eq i e (λ t. absurd (s (ap (λ (x : ℕ). get_or targets x 0) t))) (λ t. m.done i (omega arith) l));
        }

  -- all slots are passed: a Label is marked where it is named
  names_end : Unique code → (marks : List Bool) → MarkedTo code targets (2 * length code) marks → NamedMarks code marks
  names_end once marks m = record {
    each = λ k l h i. by_test (λ b. is_named (lookup code l) ≡ b → get_or marks k false ≡ b) (is_named (lookup code l)) (λ t q. on k l h i t)
        (λ t q. by_test (λ b. get_or marks k false ≡ b → b ≡ false) (get_or marks k false) (λ m r. absurd (true≢false (sym (off k l i m) ∙ t))) (λ m r. refl) refl) refl;
  }
    where
      on : (k l : ℕ) → k < length code → Memᴰ l (label_of (at code k)) → is_named (lookup code l) ≡ true → get_or marks k false ≡ true
      on k l h i t =
          let by = named_by code l t in
          let low : l < no_label = dests_below (at code by.0) l (below by.0 by.1) by.2 in
          let e = name_slot code by.0 l by.1 by.2 in
          let is = resolved.each e.0 e.1 (omega (arith, e.2)) in
          let there : get_or targets e.0 0 ≡ k = sym (ap offset_of is) ∙ ap (label_offset code) e.2 ∙ offset_is code once k l h i in
          ap (λ (x : ℕ). get_or marks x false) (sym there) ∙ m.done e.0 e.1 (omega (arith, e.2))

      off : (k l : ℕ) → Memᴰ l (label_of (at code k)) → get_or marks k false ≡ true → is_named (lookup code l) ≡ true
      off k l i s =
          let by = m.sound k s in
          let d = defined code by.0 (ap is_defined by.1) in
          let there : label_offset code by.0 ≡ k = ap offset_of by.1 in
          let label : Memᴰ by.0 (label_of (at code k)) = subst (λ (x : ℕ). Memᴰ by.0 (label_of (at code x))) there d.label in
          let same : l ≡ by.0 = label_one (at code k) l i ∙ sym (label_one (at code k) by.0 label) in
          ap (λ (x : ℕ). is_named (lookup code x)) same ∙ ap is_named by.1

-- none is marked yet
pub marks_none : (code : List Bytecode) (targets : List ℕ) (marks : List Bool) → ((o : ℕ) → get_or marks o false ≡ false) → MarkedTo code targets 0 marks
marks_none code targets marks z = record { sound = λ o t. absurd (true≢false (sym t ∙ z o)); done = λ i h. absurd (omega arith) }

-- ---- of an accepted sheet

module _ (sheet : ResolvedSheet) where
  below : (k : ℕ) → k < length (code_in sheet) → LabelsBelow (at (code_in sheet) k)
  below k h = code_below sheet.shaped sheet.fits.each k (omega (arith, sheet.size))

  -- what is read of slot e
  module _ (e : ℕ) (h : e < 2 * sheet.count) (r : Bytecode) (read : r ≡ at (code_in sheet) (e / 2)) where
    size : e < 2 * length (code_in sheet)
    size = omega (arith, sheet.size)

    slot : slot_at (code_in sheet) e ≡ get_or (branch_dests r) (e % 2) no_label
    unfolding slot_at
    slot = ap (λ (x : Bytecode). get_or (branch_dests x) (e % 2) no_label) (sym read)

    low : LabelsBelow r
    low = subst LabelsBelow (sym read) (below (e / 2) (omega (arith, sheet.size)))

    named : is_some (slice_get (branch_dests r) (e % 2)) ≡ true → slot_at (code_in sheet) e ≡ no_label → ⊥
    named q t =
        let v = some_value (slice_get (branch_dests r) (e % 2)) q in
        omega (arith, dests_below r v.0 low (slice_get_in (branch_dests r) (e % 2) v.0 v.1), sym (get_or_from_slice_get (branch_dests r) (e % 2) v.0 no_label v.1) ∙ sym slot ∙ t)

    -- the offset of a label that it names is one of the code
    pub mark_inside : is_some (slice_get (branch_dests r) (e % 2)) ≡ true → get_or sheet.targets.now e 0 < sheet.count
    mark_inside q = omega (arith, sheet.size, target_inside (code_in sheet) below sheet.targets.now sheet.checked.resolved e size (named q))

    module _ {marks : List Bool} (m : MarkedTo (code_in sheet) sheet.targets.now e marks) where
      -- that offset is marked
      pub mark_put : is_some (slice_get (branch_dests r) (e % 2)) ≡ true → sheet.count ≤ length marks → MarkedTo (code_in sheet) sheet.targets.now (e + 1) (set marks (get_or sheet.targets.now e 0) true)
      mark_put q room = names_put (code_in sheet) below sheet.targets.now sheet.checked.resolved e size (named q) (omega (arith, sheet.size)) m

      -- it names nothing, and no mark is made
      pub mark_skip : is_some (slice_get (branch_dests r) (e % 2)) ≡ false → MarkedTo (code_in sheet) sheet.targets.now (e + 1) marks
      mark_skip q =
          let none = no_value (slice_get (branch_dests r) (e % 2)) q in
          names_skip (code_in sheet) below sheet.targets.now sheet.checked.resolved e size
          (slot ∙ sym (unwrap_or-slice_get (branch_dests r) (e % 2) no_label) ∙ ap (λ (x : Option ℕ). unwrap_or x no_label) none) m

  -- all slots are passed
  pub mark_end : {e : ℕ} {marks : List Bool} → e ≡ 2 * sheet.count → MarkedTo (code_in sheet) sheet.targets.now e marks → NamedMarks (code_in sheet) marks
  mark_end {e} {marks} is m =
      names_end (code_in sheet) below sheet.targets.now sheet.checked.resolved (accepted_valid sheet.bytes.now sheet.checked.accepted).once marks
      (subst (λ (x : ℕ). MarkedTo (code_in sheet) sheet.targets.now x marks) (is ∙ ap (λ (x : ℕ). 2 * x) (sym sheet.size)) m)

-- ---- one instruction's text

-- a Label that has no mark
pub unmarked_some : (r : Bytecode) (mark : Bool) → is_unmarked r mark ≡ true → said (codes " L") r.one ≡ unmarked_text r mark
unfolding unmarked_text
unmarked_some r mark e = rw e

-- another instruction
pub unmarked_none : (r : Bytecode) (mark : Bool) → is_unmarked r mark ≡ false → [] ≡ unmarked_text r mark
unfolding unmarked_text
unmarked_none r mark e = rw e

unmarked_is : (code : List Bytecode) (marks : List Bool) → NamedMarks code marks → (k : ℕ) → k < length code → unmarked_text (at code k) (get_or marks k false) ≡ gather (unnamed_text code) (label_of (at code k))
unfolding unmarked_text is_unmarked unnamed_text label_of
unmarked_is code marks named k h =
    go (eqb (at code k).kind Label) (λ i. named.each k (at code k).one h i)
  where
    both : (b : Bool) → cond (not b) (said (codes " L") (at code k).one) [] ≡ cond b [] (said (codes " L") (at code k).one) ++ []
    both true = refl
    both false = sym (append-nil (said (codes " L") (at code k).one))

    go : (b : Bool) → (Memᴰ (at code k).one (cond b ((at code k).one ∷ []) []) → get_or marks k false ≡ is_named (lookup code (at code k).one))
        → cond (b && not (get_or marks k false)) (said (codes " L") (at code k).one) []
        ≡ gather (λ l. cond (is_named (lookup code l)) [] (said (codes " L") l)) (cond b ((at code k).one ∷ []) [])
    go true e = ap (λ (b : Bool). cond (not b) (said (codes " L") (at code k).one) []) (e (mathlib.Core.List.Memᴰ.head refl)) ∙ both (is_named (lookup code (at code k).one))
    go false e = refl

-- ---- all texts, one behind the other

pub unnamed_none : (code : List Bytecode) → unnamed_to code 0 ≡ []
unfolding unnamed_to
unnamed_none code = refl

-- those of the first k, and the rest
unnamed_split : (code : List Bytecode) (k : ℕ) → unnamed_labels code ≡ unnamed_to code k ++ gather (unnamed_text code) (gather label_of (drop k code))
unfolding unnamed_labels unnamed_to
unnamed_split code k =
    ap (λ (x : List Bytecode). gather (unnamed_text code) (gather label_of x)) (sym (take-append-drop k code))
    ∙ ap (gather (unnamed_text code)) (gather_append label_of (take k code) (drop k code)) ∙ gather_append (unnamed_text code) (gather label_of (take k code)) (gather label_of (drop k code))

pub unnamed_all : (code : List Bytecode) (k : ℕ) → length code ≤ k → unnamed_to code k ≡ unnamed_labels code
unfolding unnamed_to unnamed_labels
unnamed_all code k e = ap (λ (x : List Bytecode). gather (unnamed_text code) (gather label_of x)) (take_all k code e)

-- none is unnamed
pub all_named : (code : List Bytecode) (k : ℕ) → length code ≤ k → unnamed_to code k ≡ [] → true ≡ eqb (length (unnamed_labels code)) 0
all_named code k e q = sym (eq-eqb (length (unnamed_labels code)) 0 (ap length (sym (unnamed_all code k e) ∙ q)))

-- what is read of instruction k
module _ (code : List Bytecode) (marks : List Bool) (named : NamedMarks code marks) (k : ℕ) (inside : k < length code) (r : Bytecode) (read : r ≡ at code k) where
  -- its text behind those of the first k
  pub unnamed_more : unnamed_to code k ++ unmarked_text r (get_or marks k false) ≡ unnamed_to code (k + 1)
  unfolding unnamed_to
  unnamed_more =
      ap (λ (x : Bytecode). unnamed_to code k ++ unmarked_text x (get_or marks k false)) read
      ∙ ap (λ (x : List ℕ). unnamed_to code k ++ x) (unmarked_is code marks named k inside)
      ∙ sym (gather_append (unnamed_text code) (gather label_of (take k code)) (label_of (at code k)))
      ∙ ap (gather (unnamed_text code)) (sym (gather_more label_of code k nop inside))

  -- a Label that has no mark, and another instruction
  pub label_put : is_unmarked r (get_or marks k false) ≡ true → unnamed_to code k ++ said (codes " L") r.one ≡ unnamed_to code (k + 1)
  label_put e = ap (λ (t : List ℕ). unnamed_to code k ++ t) (unmarked_some r (get_or marks k false) e) ∙ unnamed_more

  pub label_skip : is_unmarked r (get_or marks k false) ≡ false → unnamed_to code k ≡ unnamed_to code (k + 1)
  label_skip e = sym (append-nil (unnamed_to code k)) ∙ ap (λ (t : List ℕ). unnamed_to code k ++ t) (unmarked_none r (get_or marks k false) e) ∙ unnamed_more

  -- it has no text, and the first k have none
  pub named_more : is_unmarked r (get_or marks k false) ≡ false → unnamed_to code k ≡ [] → unnamed_to code (k + 1) ≡ []
  named_more e q = sym (label_skip e) ∙ q

  -- a Label that has no mark is unnamed
  pub some_unnamed : is_unmarked r (get_or marks k false) ≡ true → false ≡ eqb (length (unnamed_labels code)) 0
  some_unnamed e =
      sym (ne_eqb (length (unnamed_labels code)) 0 (λ q. omega (
        arith,
        ap length (unnamed_split code (k + 1)),
        length-append (unnamed_to code (k + 1)) (gather (unnamed_text code) (gather label_of (drop (k + 1) code))),
        ap length unnamed_more,
        length-append (unnamed_to code k) (unmarked_text r (get_or marks k false)),
        ap length (unmarked_some r (get_or marks k false) e),
        length-append (codes " L") (decimal r.one),
      )))

pub ruleset label_steps = (unnamed_none, label_put, label_skip, unnamed_all)
