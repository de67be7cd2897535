-- What becomes of an offset: the sets that are read, what is dropped and what is merged. Assumes nothing.
use Rattle.std.specs.Prelude.{◌≡◌, ◌⊎◌, Bool, true, false, ◌&&◌, List, [], ◌∷◌, get_or, length, take, drop, refl, cond, not, ◌||◌, ℕ, zero, suc, ◌+◌, ◌*◌, ◌≤◌, ◌<◌, eqb}
use Rattle.std.proofs.Common.{sym, ap, ap₂, ◌∙◌, subst, inl, inr, ⊎_elim, zero-add, suc-add, add-one, arith, eqb-true, eq-eqb, true≢false, take-take, drop-drop}
use Rattle.std.proofs.Math.Seq.{take-nil}
use Rattle.base.specs.Sizes.{set_bytes, pair_bytes, max_locals, max_instructions, block_bytes}
use Rattle.base.specs.Bytes.{number, part}
use Rattle.base.specs.ListLaws.{by_test, or-true, get_d_tab}
use Rattle.dataflow_domains.specs.Mask.{holds}
use Rattle.stackless_bytecode.specs.declared.Bytecode.{Bytecode}
use Rattle.stackless_bytecode.specs.Kinds.{Assign, Call, Load, at}
use Rattle.sheet.specs.Layout.{code_of}
use Rattle.sheet.specs.CheckLaws.{code_length}
use Rattle.sheet.specs.ValidLaws.{accepted_valid}
use Rattle.livevar_analysis.specs.Analysis.{LiveVarInfo, no_info, info_in, infos_of}
use Rattle.livevar_analysis.specs.InputLaws.{code_at, in_range}
use Rattle.livevar_transform.specs.Rewrite.{info_at, is_dead, is_merged, is_dropped}
use Rattle.livevar_transform.specs.PieceLaws.{Merged as MergedCall, is_merged_lem, merged_inside, merged_kept}
use Rattle.livevar_analysis.specs.Rules.{InRange}
use denote.Enum.Bare.{sameb}
use Rattle.livevar_transform.specs.contracts.plan.Fate.{the_type}
use Rattle.livevar_transform.specs.declared.plan.Fate.{Fate}
use Rattle.livevar_transform.specs.declared.plan.Fate.TheVariants.{Kept, Dropped, Merged}
use Rattle.livevar_transform.specs.Plan.{Known, sides_at, is_behind, fate_of, goes, merges, Planned, MergedInside}

-- ---- the sets of an instruction

-- they are what is read back
pub sides_are : (info : List ℕ) (n k : ℕ) → k < n → info_at (infos_of n info) k ≡ sides_at info k
unfolding infos_of
sides_are info n k h =
    get_d_tab n 0 k (λ j. info_in (part info (pair_bytes * j) pair_bytes)) no_info h
    ∙ ap (λ (j : ℕ). info_in (part info (pair_bytes * j) pair_bytes)) (zero-add k)

-- the set before, and the set after
pub before_part : (info : List ℕ) (a : ℕ) → number (part info a set_bytes) ≡ (info_in (part info a pair_bytes)).before
unfolding info_in
before_part info a = ap number (sym (take-take set_bytes pair_bytes (drop a info) (omega arith)))

drop_take : (n m : ℕ) (l : List ℕ) → drop n (take (n + m) l) ≡ take m (drop n l)
drop_take zero m l = ap (λ (x : ℕ). take x l) (zero-add m)
drop_take (suc n) m [] = ap (drop (suc n)) (take-nil (suc n + m)) ∙ sym (take-nil m)
drop_take (suc n) m (x ∷ xs) = ap (λ (k : ℕ). drop (suc n) (take k (x ∷ xs))) (suc-add n m) ∙ drop_take n m xs

pub after_part : (info : List ℕ) (a : ℕ) → number (part info (a + set_bytes) set_bytes) ≡ (info_in (part info a pair_bytes)).after
unfolding info_in
after_part info a = ap number (ap (take set_bytes) (sym (drop-drop set_bytes a info)) ∙ sym (drop_take set_bytes set_bytes (drop a info)))

-- ---- an instruction in range, and the sets of an accepted sheet of n instructions

-- the destination of an Assign or a Load is a local
pub dst_low : (r : Bytecode) → InRange r → (r.kind ≡ Assign) ⊎ (r.kind ≡ Load) → get_or r.dsts 0 0 < max_locals
dst_low r i q = i.dsts.each 0 (⊎_elim (λ z. i.assign z) (λ z. i.load z) q)

module _ {s info : List ℕ} {n : ℕ} (h : Known s info n) where
  pub size : length (code_of s) ≡ n
  size = code_length s ∙ sym h.count

  pub few : n ≤ max_instructions
  few = omega (arith, h.count, (accepted_valid s h.accepted).few)

  pub long : block_bytes ≤ length s
  long = omega (arith, (accepted_valid s h.accepted).size)

  pub ranged : (k : ℕ) (r : Bytecode) → k < n → r ≡ at (code_of s) k → InRange r
  ranged k r l e = subst InRange (sym (e ∙ code_at s h.accepted k (omega (arith, h.count)))) (in_range s h.accepted k (omega (arith, h.count)))

  -- the one destination of a Call is a local
  pub one_low : (k : ℕ) (r : Bytecode) → k < n → r ≡ at (code_of s) k → r.ndst ≡ 1 → get_or r.dsts 0 0 < max_locals
  one_low k r l e q = (ranged k r l e).dsts.each 0 (omega arith)

  -- and the destination of an Assign or a Load
  pub dst_inside : (k : ℕ) (r : Bytecode) → k < n → r ≡ at (code_of s) k → eqb r.kind Assign || eqb r.kind Load ≡ true → get_or r.dsts 0 0 < max_locals
  dst_inside k r l e q =
      dst_low r (ranged k r l e) (⊎_elim (λ z. inl (eqb-true _ _ z)) (λ z. inr (eqb-true _ _ z)) (or-true (eqb r.kind Assign) (eqb r.kind Load) q))

-- ---- what is dropped and what is merged

module _ (code : List Bytecode) (info : List ℕ) (n k : ℕ) (r : Bytecode) (here : r ≡ at code k) where
  -- m is the set after r, and b whether it has the destination
  pub dead_is : (m : ℕ) {b : Bool} → k < n → eqb r.kind Assign || eqb r.kind Load ≡ true → m ≡ (sides_at info k).after → b ≡ holds m (get_or r.dsts 0 0) → not b ≡ is_dead code (infos_of n info) k
  unfolding is_dead
  dead_is m l q f g =
      ap not (g ∙ ap (λ (x : ℕ). holds x (get_or r.dsts 0 0)) (f ∙ ap (λ (i : LiveVarInfo). i.after) (sym (sides_are info n k l))))
      ∙ ap (λ (x : Bytecode). not (holds (info_at (infos_of n info) k).after (get_or x.dsts 0 0))) here
      ∙ sym (ap (λ (t : Bool). t && not (holds (info_at (infos_of n info) k).after (get_or (at code k).dsts 0 0))) (ap (λ (x : Bytecode). eqb x.kind Assign || eqb x.kind Load) (sym here) ∙ q))

  pub dead_none : eqb r.kind Assign || eqb r.kind Load ≡ false → false ≡ is_dead code (infos_of n info) k
  unfolding is_dead
  dead_none q = sym (ap (λ (t : Bool). t && not (holds (info_at (infos_of n info) k).after (get_or (at code k).dsts 0 0))) (ap (λ (x : Bytecode). eqb x.kind Assign || eqb x.kind Load) (sym here) ∙ q))

  merged_none : (MergedCall code (infos_of n info) k → ⊥) → false ≡ is_merged code (infos_of n info) k
  merged_none f =
      by_test (λ b. is_merged code (infos_of n info) k ≡ b → false ≡ b) (is_merged code (infos_of n info) k)
      (λ e q. absurd (f (is_merged_lem code (infos_of n info) k e))) (λ e q. refl) refl

  -- r is no Call; it has not one destination; nothing stands behind it
  pub merged_call : eqb r.kind Call ≡ false → false ≡ is_merged code (infos_of n info) k
  merged_call z = merged_none (λ m. true≢false (sym (eq-eqb r.kind Call (ap (λ (x : Bytecode). x.kind) here ∙ m.call)) ∙ z))

  pub merged_single : (r.ndst ≡ 1 → ⊥) → false ≡ is_merged code (infos_of n info) k
  merged_single z = merged_none (λ m. z (ap (λ (x : Bytecode). x.ndst) here ∙ m.single))

  pub merged_last : length code ≤ k + 1 → false ≡ is_merged code (infos_of n info) k
  merged_last z = merged_none (λ m. omega (arith, merged_inside code (infos_of n info) k m))

  -- a stands behind it: no Assign; not from the destination
  module _ {a : Bytecode} (behind : a ≡ at code (k + 1)) where
    next : a ≡ at code (suc k)
    next = behind ∙ ap (at code) (add-one k)

    pub merged_assign : eqb a.kind Assign ≡ false → false ≡ is_merged code (infos_of n info) k
    merged_assign z = merged_none (λ m. true≢false (sym (eq-eqb a.kind Assign (ap (λ (x : Bytecode). x.kind) next ∙ m.assign)) ∙ z))

    pub merged_from : (get_or a.srcs 0 0 ≡ get_or r.dsts 0 0 → ⊥) → false ≡ is_merged code (infos_of n info) k
    merged_from z = merged_none (λ m. z (ap (λ (x : Bytecode). get_or x.srcs 0 0) next ∙ m.from ∙ ap (λ (x : Bytecode). get_or x.dsts 0 0) (sym here)))

    -- m is the set after a, and b whether it has the destination
    pub merged_is : (m : ℕ) {b : Bool} → k + 1 < n → eqb r.kind Call ≡ true → r.ndst ≡ 1 → eqb a.kind Assign ≡ true → get_or a.srcs 0 0 ≡ get_or r.dsts 0 0 → m ≡ (sides_at info (k + 1)).after
        → b ≡ holds m (get_or r.dsts 0 0) → not b ≡ is_merged code (infos_of n info) k
    unfolding is_merged
    merged_is m {b} l call one assign from f q =
        let t : eqb (at code k).kind Call ≡ true = ap (λ (x : Bytecode). eqb x.kind Call) (sym here) ∙ call in
        let u : eqb (at code k).ndst 1 ≡ true = eq-eqb _ 1 (ap (λ (x : Bytecode). x.ndst) (sym here) ∙ one) in
        let v : eqb (at code (suc k)).kind Assign ≡ true = ap (λ (x : Bytecode). eqb x.kind Assign) (sym next) ∙ assign in
        let w : eqb (get_or (at code (suc k)).srcs 0 0) (get_or (at code k).dsts 0 0) ≡ true =
        eq-eqb _ _ (ap (λ (x : Bytecode). get_or x.srcs 0 0) (sym next) ∙ from ∙ ap (λ (x : Bytecode). get_or x.dsts 0 0) here) in
        ap not (q ∙ ap₂ holds (f ∙ ap (λ (i : LiveVarInfo). i.after) (sym (sides_are info n (k + 1) l) ∙ ap (info_at (infos_of n info)) (add-one k))) (ap (λ (x : Bytecode). get_or x.dsts 0 0) here))
        ∙ rw (t, u, v, w)

-- ---- what becomes of an offset

module _ (code : List Bytecode) (info : List LiveVarInfo) where
  dropped_is : (k : ℕ) → is_dropped code info k ≡ is_dead code info k || is_behind code info k
  unfolding is_dropped is_behind
  dropped_is zero = by_test (λ b. b ≡ b || false) (is_dead code info 0) (λ e. refl) (λ e. refl)
  dropped_is (suc k) = refl

  fate_dropped : (k : ℕ) → is_dropped code info k ≡ true → Dropped ≡ fate_of code info k
  unfolding fate_of
  fate_dropped k e = sym (ap (λ (b : Bool). cond b Dropped (cond (is_merged code info k) Merged Kept)) e)

  pub fate_behind : (k : ℕ) → is_behind code info k ≡ true → Dropped ≡ fate_of code info k
  fate_behind k e = fate_dropped k (dropped_is k ∙ ap (λ (b : Bool). is_dead code info k || b) e ∙ by_test (λ b. b || true ≡ true) (is_dead code info k) (λ q. refl) (λ q. refl))

  pub fate_dead : (k : ℕ) → is_dead code info k ≡ true → Dropped ≡ fate_of code info k
  fate_dead k e = fate_dropped k (dropped_is k ∙ ap (λ (b : Bool). b || is_behind code info k) e)

  pub fate_kept : (k : ℕ) (b : Bool) → is_behind code info k ≡ false → is_dead code info k ≡ false → is_merged code info k ≡ b → cond b Merged Kept ≡ fate_of code info k
  unfolding fate_of
  fate_kept k b e d m = sym (ap₂ (λ (x y : Bool). cond x Dropped (cond y Merged Kept)) (dropped_is k ∙ ap₂ ◌||◌ d e) m)

  pub behind_first : false ≡ is_behind code info 0
  unfolding is_behind
  behind_first = refl

  -- read back: whether it goes, and whether it is merged
  pub fate_goes : (k : ℕ) → goes (fate_of code info k) ≡ is_dropped code info k
  unfolding fate_of
  fate_goes k =
      by_test (λ d. goes (cond d Dropped (cond (is_merged code info k) Merged Kept)) ≡ d) (is_dropped code info k) (λ d. refl)
      (λ d. by_test (λ m. goes (cond m Merged Kept) ≡ false) (is_merged code info k) (λ m. refl) (λ m. refl))

  pub fate_merges : (k : ℕ) → merges (fate_of code info k) ≡ is_merged code info k
  unfolding fate_of
  fate_merges k =
      by_test (λ m. is_merged code info k ≡ m → merges (cond (is_dropped code info k) Dropped (cond m Merged Kept)) ≡ m) (is_merged code info k)
      (λ m z. ap (λ (d : Bool). merges (cond d Dropped Merged)) (merged_kept code info k (is_merged_lem code info k m)))
      (λ m z. by_test (λ d. merges (cond d Dropped Kept) ≡ false) (is_dropped code info k) (λ w. refl) (λ w. refl)) refl

  pub fate_merged : (k : ℕ) → fate_of code info k ≡ Merged → is_merged code info k ≡ true
  fate_merged k e = sym (fate_merges k) ∙ ap merges e

  -- the next one stands behind a merged Call
  pub behind_next : (k : ℕ) {f : Fate} → f ≡ fate_of code info k → merges f ≡ is_behind code info (k + 1)
  behind_next k e = ap merges e ∙ fate_merges k ∙ sym (ap (is_behind code info) (add-one k) ∙ next)
    where
      next : is_behind code info (suc k) ≡ is_merged code info k
      next = unfold is_behind in refl

-- there is code behind a merged Call
pub merged_planned : {s info : List ℕ} {n refs : ℕ} {fates : List Fate} {lost : List ℕ} → Known s info n → Planned (code_of s) (infos_of n info) refs fates lost n → MergedInside fates n
merged_planned {s} {info} {n} h p = record {
  each = λ k l e. let m : is_merged (code_of s) (infos_of n info) k ≡ true = fate_merged (code_of s) (infos_of n info) k (sym (p.fate k l) ∙ e) in
      omega (arith, size h, merged_inside (code_of s) (infos_of n info) k (is_merged_lem (code_of s) (infos_of n info) k m));
}

-- ---- the tests of a fate in the code

pub same_merged : (f : Fate) → sameb the_type f Merged ≡ merges f
same_merged Kept = refl
same_merged Dropped = refl
same_merged Merged = refl

pub same_dropped : (f : Fate) → sameb the_type f Dropped ≡ goes f
same_dropped Kept = refl
same_dropped Dropped = refl
same_dropped Merged = refl

-- the same, where the test is known
pub merged_as : (f : Fate) {b t : Bool} → b ≡ sameb the_type f Merged → b ≡ t → merges f ≡ t
merged_as f e q = sym (e ∙ same_merged f) ∙ q

pub dropped_as : (f : Fate) {b t : Bool} → b ≡ sameb the_type f Dropped → b ≡ t → goes f ≡ t
dropped_as f e q = sym (e ∙ same_dropped f) ∙ q

pub merged_fate : (f : Fate) → merges f ≡ true → f ≡ Merged
merged_fate Kept e = absurd (true≢false (sym e))
merged_fate Dropped e = absurd (true≢false (sym e))
merged_fate Merged e = refl
