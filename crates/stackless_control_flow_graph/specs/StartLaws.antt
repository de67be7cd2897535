-- The pass over the instructions: successors into their places, and marks where blocks start. Assumes nothing.
use Rattle.std.specs.Prelude.{◌≡◌, refl, ◌⊎◌, Bool, false, cond, not, ◌||◌, ℕ, zero, suc, ◌+◌, ◌*◌, ◌/◌, ◌%◌, ◌-◌, ◌<◌, eqb, set, length, take, true, List, [], ◌∷◌, ◌++◌, map, get_or}
use Rattle.std.proofs.Common.{sym, ap₂, ◌∙◌, subst, ⊎_elim, true≢false, arith, add-one, length-set, get_or-set_same, get_or-set_other, ap, inl, inr}
use mathlib.Core.List.Memᴰ
use mathlib.Core.List.{Memᴰ}
use Rattle.std.proofs.Math.Seq.{take-nil}
use Rattle.base.specs.Lists.{any}
use Rattle.base.specs.ListLaws.{by_test, by_eq, or-true, in_any}
use Rattle.stackless_bytecode.specs.declared.Bytecode.{Bytecode}
use Rattle.stackless_bytecode.specs.Kinds.{at, is_exit, is_flagged, is_branch, falls_through, branch_dests, label_of}
use Rattle.stackless_bytecode.specs.Successors.{Unique, ascending, successors}
use Rattle.stackless_bytecode.specs.KindLaws.{by_dests}
use Rattle.stackless_bytecode.specs.Labels.{lookup, offset_of, is_named, label_offset}
use Rattle.stackless_bytecode.specs.LookupLaws.{named_by, offset_is}
use Rattle.stackless_bytecode.specs.SuccessorLaws.{NextOffset, in_succs, succs_in_lem}
use Rattle.stackless_bytecode.specs.Sound.{Sound}
use Rattle.stackless_bytecode.specs.Slots.{no_label, slot_at, Resolved}
use Rattle.stackless_bytecode.specs.SlotLaws.{LabelsBelow}
use Rattle.stackless_control_flow_graph.specs.declared.Successors.{Successors}
use Rattle.stackless_control_flow_graph.specs.Blocks.{starts}
use Rattle.stackless_control_flow_graph.specs.BlockLaws.{Last, succs_start}
use Rattle.stackless_control_flow_graph.specs.Arrays.{offsets_of, succs_by, succs_in, mark_all, Within, SuccessorsTo, Marked, Marking}

-- ---- marks at an offset and at the first c of two more

-- none, one, or both
pub mark_none : (m : List Bool) (n c f s : ℕ) → c ≡ 0 → set m n true ≡ mark_all m (n ∷ take c (f ∷ s ∷ []))
unfolding mark_all
mark_none m n zero f s e = refl
mark_none m n (suc c) f s e = absurd (omega arith)

pub mark_one : (m : List Bool) (n c f s : ℕ) → c ≡ 1 → set (set m n true) f true ≡ mark_all m (n ∷ take c (f ∷ s ∷ []))
unfolding mark_all
mark_one m n zero f s e = absurd (omega arith)
mark_one m n (suc zero) f s e = refl
mark_one m n (suc (suc c)) f s e = absurd (omega arith)

pub mark_two : (m : List Bool) (n c f s : ℕ) → (c ≡ 0 → ⊥) → (c ≡ 1 → ⊥) → set (set (set m n true) f true) s true ≡ mark_all m (n ∷ take c (f ∷ s ∷ []))
unfolding mark_all
mark_two m n zero f s h g = absurd (h refl)
mark_two m n (suc zero) f s h g = absurd (g refl)
mark_two m n (suc (suc c)) f s h g = ap (λ (l : List ℕ). mark_all m (n ∷ f ∷ s ∷ l)) (sym (take-nil c))

-- ---- the successors of an offset, from the offsets of its labels

names_at : (f : ℕ → ℕ) (r : Bytecode) (one two : ℕ) → LabelsBelow r
    → (get_or (branch_dests r) 0 no_label < no_label → one ≡ f (get_or (branch_dests r) 0 no_label)) → (get_or (branch_dests r) 1 no_label < no_label → two ≡ f (get_or (branch_dests r) 1 no_label))
    → take (length (branch_dests r)) (one ∷ two ∷ []) ≡ map f (branch_dests r)
names_at f r one two below =
    by_dests (λ xs. (get_or xs 0 no_label < no_label → one ≡ f (get_or xs 0 no_label)) → (get_or xs 1 no_label < no_label → two ≡ f (get_or xs 1 no_label)) → take (length xs) (one ∷ two ∷ []) ≡ map f xs) r
    (λ g h. ap₂ (λ (a b : ℕ). a ∷ b ∷ []) (g below.one) (h below.two)) (λ g h. ap (λ (a : ℕ). a ∷ []) (g below.one)) (λ g h. refl)

slot_one : (code : List Bytecode) (k : ℕ) → slot_at code (2 * k) ≡ get_or (branch_dests (at code k)) 0 no_label
unfolding slot_at
slot_one code k =
    let a : 2 * k / 2 ≡ k = omega arith in
    let b : 2 * k % 2 ≡ 0 = omega arith in
    ap₂ (λ (x y : ℕ). get_or (branch_dests (at code x)) y no_label) a b

slot_two : (code : List Bytecode) (k : ℕ) → slot_at code (2 * k + 1) ≡ get_or (branch_dests (at code k)) 1 no_label
unfolding slot_at
slot_two code k =
    let a : (2 * k + 1) / 2 ≡ k = omega arith in
    let b : (2 * k + 1) % 2 ≡ 1 = omega arith in
    ap₂ (λ (x y : ℕ). get_or (branch_dests (at code x)) y no_label) a b

pub resolved_succs : (code : List Bytecode) (ts : List ℕ) (k : ℕ) → Resolved code ts → k < length code → LabelsBelow (at code k)
    → succs_by (at code k) (get_or ts (2 * k) 0) (get_or ts (2 * k + 1) 0) (k + 1) ≡ successors code k
unfolding succs_by successors
resolved_succs code ts k r h below =
    ap₂ (λ (l : List ℕ) (x : ℕ). ascending (l ++ cond (falls_through (at code k)) (x ∷ []) [])) named (add-one k)
  where
    named : take (length (branch_dests (at code k))) (get_or ts (2 * k) 0 ∷ get_or ts (2 * k + 1) 0 ∷ []) ≡ map (label_offset code) (branch_dests (at code k))
    named =
        names_at (label_offset code) (at code k) (get_or ts (2 * k) 0) (get_or ts (2 * k + 1) 0) below
        (λ l. sym (ap offset_of (r.each (2 * k) (omega arith) (subst (λ (x : ℕ). x < no_label) (sym (slot_one code k)) l))) ∙ ap (label_offset code) (slot_one code k))
        (λ l. sym (ap offset_of (r.each (2 * k + 1) (omega arith) (subst (λ (x : ℕ). x < no_label) (sym (slot_two code k)) l))) ∙ ap (label_offset code) (slot_two code k))

-- they are offsets of the code
pub succs_within : (code : List Bytecode) → Sound code → (k : ℕ) → k < length code → Within (length code) (successors code k)
succs_within code sound k h = record { each = λ o i. go o (in_succs code k o i) }
  where
    go : (o : ℕ) → NextOffset code k o → o < length code
    go o (NextOffset.named l i e) = omega (arith, (sound.named k l h i).inside)
    go o (NextOffset.on f e) =
        by_eq (suc k) (length code) (λ q. absurd (true≢false (sym f ∙ ap (λ (x : ℕ). falls_through (at code x)) (last q) ∙ sound.closed))) (λ g. omega arith)
      where
        last : suc k ≡ length code → k ≡ length code - 1
        last q = omega arith

-- ---- into their places

pub going_more : (code : List Bytecode) (k : ℕ) (goes : List Successors) (e : Successors) → k < length goes → offsets_of e ≡ successors code k → SuccessorsTo code k goes → SuccessorsTo code (k + 1) (set goes k e)
going_more code k goes e room is g = record {
  each = λ j h. by_eq j k
      (λ q. ap (λ (x : ℕ). succs_in (set goes k e) x) q ∙ ap offsets_of (get_or-set_same goes k e Successors.None room) ∙ is ∙ ap (successors code) (sym q))
      (λ q. ap offsets_of (get_or-set_other goes k j e Successors.None q) ∙ g.each j (omega arith));
}

-- ---- marks

mark_kept : (m : List Bool) (xs : List ℕ) (j : ℕ) → get_or m j false ≡ true → get_or (mark_all m xs) j false ≡ true
unfolding mark_all
mark_kept m [] j e = e
mark_kept m (x ∷ xs) j e =
    mark_kept (set m x true) xs j (by_eq j x
    (λ q. ap (λ (i : ℕ). get_or (set m i true) j false) (sym q) ∙ get_or-set_same m j true false (in_range m j e)) (λ q. get_or-set_other m x j true false q ∙ e))
  where
    in_range : (l : List Bool) (i : ℕ) → get_or l i false ≡ true → i < length l
    in_range [] i e = absurd (true≢false (sym e))
    in_range (y ∷ ys) zero e = omega arith
    in_range (y ∷ ys) (suc i) e = omega (arith, in_range ys i e)

mark_in : (m : List Bool) (xs : List ℕ) (j : ℕ) → j < length m → Memᴰ j xs → get_or (mark_all m xs) j false ≡ true
unfolding mark_all
mark_in m [] j h i = absurd (Memᴰ.not-nil i)
mark_in m (x ∷ xs) j h i =
    ⊎_elim (λ e. mark_kept (set m x true) xs j (ap (λ (y : ℕ). get_or (set m y true) j false) (sym e) ∙ get_or-set_same m j true false h))
    (λ t. mark_in (set m x true) xs j (omega (arith, length-set m x true)) t) (Memᴰ.cases_cons i)

in_mark : (m : List Bool) (xs : List ℕ) (j : ℕ) → get_or (mark_all m xs) j false ≡ true → (get_or m j false ≡ true) ⊎ Memᴰ j xs
unfolding mark_all
in_mark m [] j e = inl e
in_mark m (x ∷ xs) j e =
    ⊎_elim (λ l. by_eq j x (λ q. inr (Memᴰ.head q)) (λ q. inl (sym (get_or-set_other m x j true false q) ∙ l))) (λ t. inr (Memᴰ.tail t))
    (in_mark (set m x true) xs j e)

pub marks_skip : (code : List Bytecode) (k : ℕ) (m : List Bool) → is_branch (at code k) ≡ false → Marking code k m → Marking code (k + 1) m
marks_skip code k m e g = record {
  sound = g.sound;
  entry = g.entry;
  behind = λ j h l b. by_eq j k (λ q. absurd (true≢false (sym b ∙ ap (λ (x : ℕ). is_branch (at code x)) q ∙ e))) (λ q. g.behind j (omega arith) l b);
  named = λ j o h b i. by_eq j k (λ q. absurd (true≢false (sym b ∙ ap (λ (x : ℕ). is_branch (at code x)) q ∙ e))) (λ q. g.named j o (omega arith) b i);
}

pub marks_more : (code : List Bytecode) → Sound code → (k : ℕ) (m : List Bool) → k < length code → length code < length m → is_branch (at code k) ≡ true
    → Marking code k m → Marking code (k + 1) (mark_all m ((k + 1) ∷ successors code k))
marks_more code sound k m h room e g = record {
  sound = λ j l q. ⊎_elim (λ w. g.sound j l w) (λ i. ⊎_elim (λ s. behind j s l) (λ t. (succs_start code sound k j h last t).starts) (Memᴰ.cases_cons i))
      (in_mark m ((k + 1) ∷ successors code k) j q);
  entry = mark_kept m ((k + 1) ∷ successors code k) 0 g.entry;
  behind = λ j l i b. by_eq j k
      (λ q. mark_in m ((k + 1) ∷ successors code k) (suc j) (omega arith) (Memᴰ.head (ap suc q ∙ sym (add-one k))))
      (λ q. mark_kept m ((k + 1) ∷ successors code k) (suc j) (g.behind j (omega arith) i b));
  named = λ j o l b i. by_eq j k
      (λ q. let t : Memᴰ o (successors code k) = subst (λ (x : ℕ). Memᴰ o (successors code x)) q i in
      mark_in m ((k + 1) ∷ successors code k) o (omega (arith, (succs_within code sound k h).each o t)) (Memᴰ.tail t))
      (λ q. mark_kept m ((k + 1) ∷ successors code k) o (g.named j o (omega arith) b i));
}
  where
    last : Last code k
    last = by_eq (suc k) (length code) (λ q. unfold Last in inl q) (λ q. unfold Last in inr (behind_starts))
      where
        behind_starts : starts code (suc k) ≡ true
        behind_starts = unfold starts in ap (λ (b : Bool). b || any (λ l. is_named (lookup code l)) (label_of (at code (suc k)))) e

    behind : (j : ℕ) → j ≡ k + 1 → j < length code → starts code j ≡ true
    behind j s l = ap (starts code) (s ∙ add-one k) ∙ unfold starts in ap (λ (b : Bool). b || any (λ l. is_named (lookup code l)) (label_of (at code (suc k)))) e

-- a named label's instruction branches
names_branch : (r : Bytecode) (l : ℕ) → Memᴰ l (branch_dests r) → is_branch r ≡ true
unfolding branch_dests is_branch falls_through
names_branch r l i = go (eqb r.kind 4) (eqb r.kind 5) (is_flagged r) i
  where
    go : (a b f : Bool) → Memᴰ l (cond a (r.one ∷ r.two ∷ []) (cond (b || f) (r.one ∷ []) [])) → not (not (a || b || is_exit r)) || f ≡ true
    go true b f m = refl
    go false true f m = refl
    go false false true m = or_end (not (not (is_exit r)))
      where
        or_end : (a : Bool) → a || true ≡ true
        or_end true = refl
        or_end false = refl
    go false false false m = absurd (Memᴰ.not-nil m)

pub marks_end : (code : List Bytecode) → Unique code → (m : List Bool) → Marking code (length code) m → Marked code m
marks_end code once m g = record {
  each = λ k h. by_test (λ b. starts code k ≡ b → get_or m k false ≡ b) (starts code k)
      (λ e q. on k h e) (λ e q. by_test (λ b. get_or m k false ≡ b → b ≡ false) (get_or m k false) (λ t s. absurd (true≢false (sym (g.sound k h s) ∙ e))) (λ t s. refl) refl) refl;
}
  where
    on : (k : ℕ) → k < length code → starts code k ≡ true → get_or m k false ≡ true
    on zero h e = g.entry
    on (suc k) h e =
        ⊎_elim (λ b. g.behind k (omega arith) h b) (λ t. label (in_any (λ l. is_named (lookup code l)) (label_of (at code (suc k))) t))
        (or-true (is_branch (at code k)) (any (λ l. is_named (lookup code l)) (label_of (at code (suc k)))) (unfold starts in e))
      where
        -- its Label is named: it is where that instruction goes
        label : (l : ℕ) × Memᴰ l (label_of (at code (suc k))) × (is_named (lookup code l) ≡ true) → get_or m (suc k) false ≡ true
        label (l, i, t) =
            let by = named_by code l t in
            g.named by.0 (suc k) by.1 (names_branch (at code by.0) l by.2)
            (succs_in_lem code by.0 (suc k) (NextOffset.named l by.2 (sym (offset_is code once (suc k) l h i))))
