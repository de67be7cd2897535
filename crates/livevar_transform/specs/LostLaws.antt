-- What edges lose, by what is read; and the pass that fills the plan. Assumes nothing.
use Rattle.std.specs.Prelude.{◌≡◌, refl, Bool, cond, ℕ, zero, suc, ◌+◌, ◌*◌, ◌/◌, ◌%◌, ◌<◌, eqb, get_or, length, set, true, false, List, [], ◌∷◌}
use Rattle.std.proofs.Common.{sym, ap, ap₂, ◌∙◌, subst, mod-lt, arith, eq-eqb, ne_eqb, get_or-set_same, get_or-set_other, length-set}
use mathlib.Core.List.{Memᴰ}
use Rattle.std.specs.Int.Bits.{bit_and}
use Rattle.base.specs.Sizes.{max_locals}
use Rattle.base.specs.ListLaws.{by_test, by_eq}
use Rattle.dataflow_domains.specs.Mask.{minus}
use Rattle.dataflow_domains.specs.MaskLaws.{ext, bit_and_lem, bit_minus, bit_lt}
use Rattle.dataflow_domains.specs.Members.{members}
use Rattle.dataflow_domains.specs.MemberLaws.{walk_end}
use Rattle.stackless_bytecode.specs.declared.Bytecode.{Bytecode}
use Rattle.stackless_bytecode.specs.Kinds.{Branch, at, branch_dests}
use Rattle.stackless_bytecode.specs.KindLaws.{branch_names}
use Rattle.stackless_bytecode.specs.Slots.{slot_at, no_label}
use Rattle.stackless_bytecode.specs.Labels.{offset_of, label_offset}
use Rattle.sheet.specs.Layout.{code_of}
use Rattle.sheet.specs.CheckLaws.{code_sound}
use Rattle.livevar_analysis.specs.Analysis.{LiveVarInfo, infos_of}
use Rattle.livevar_transform.specs.Rewrite.{info_at, target_of, lost_refs}
use Rattle.base.specs.JoinLaws.{by_lt}
use Rattle.livevar_transform.specs.declared.plan.Fate.{Fate}
use Rattle.livevar_transform.specs.declared.plan.Fate.TheVariants.{Kept}
use Rattle.livevar_transform.specs.Plan.{Ready, sides_at, fate_of, fate_at, lost_by, lost_at, Planned}
use Rattle.livevar_transform.specs.PlanLaws.{sides_are, size}

-- ---- lost references

common_is : (a b : ℕ) → minus a (minus a b) ≡ bit_and a b
common_is a b = ext _ _ (λ i. omega (arith, bit_minus a (minus a b) i, bit_minus a b i, bit_and_lem a b i, bit_lt a i, bit_lt b i))

pub common_by : (a b m c : ℕ) → m ≡ minus a b → c ≡ minus a m → c ≡ bit_and a b
common_by a b m c e f = f ∙ ap (minus a) e ∙ common_is a b

-- the label of an edge: then for an even number, else for an odd one
target_slot : (code : List Bytecode) (e : ℕ) → (at code (e / 2)).kind ≡ Branch → slot_at code e ≡ target_of code e
unfolding slot_at target_of
target_slot code e q = ap (λ (l : List ℕ). get_or l (e % 2) no_label) (branch_names (at code (e / 2)) q) ∙ go (e % 2) (mod-lt e (omega arith))
  where
    go : (d : ℕ) → d < 2 → get_or ((at code (e / 2)).one ∷ (at code (e / 2)).two ∷ []) d no_label ≡ cond (eqb d 0) (at code (e / 2)).one (at code (e / 2)).two
    go zero h = refl
    go (suc zero) h = refl
    go (suc (suc d)) h = absurd (omega arith)

target_named : (code : List Bytecode) (e : ℕ) → (at code (e / 2)).kind ≡ Branch → Memᴰ (target_of code e) (branch_dests (at code (e / 2)))
unfolding target_of
target_named code e q =
    subst (λ (l : List ℕ). Memᴰ (cond (eqb (e % 2) 0) (at code (e / 2)).one (at code (e / 2)).two) l) (sym (branch_names (at code (e / 2)) q))
    (by_test (λ b. Memᴰ (cond b (at code (e / 2)).one (at code (e / 2)).two) ((at code (e / 2)).one ∷ (at code (e / 2)).two ∷ [])) (eqb (e % 2) 0)
    (λ t. Memᴰ.head refl) (λ t. Memᴰ.tail (Memᴰ.head refl)))

target_low : (code : List Bytecode) (e : ℕ) → (at code (e / 2)).one < no_label → (at code (e / 2)).two < no_label → target_of code e < no_label
unfolding target_of
target_low code e a b = by_test (λ t. cond t (at code (e / 2)).one (at code (e / 2)).two < no_label) (eqb (e % 2) 0) (λ t. a) (λ t. b)

module _ {s targets info : List ℕ} {n : ℕ} (h : Ready s targets info n) where
  -- where the edge of a Branch goes
  module _ (e : ℕ) (r : Bytecode) (l : e < 2 * n) (q : r ≡ at (code_of s) (e / 2)) (x : r.one < no_label) (y : r.two < no_label) (b : r.kind ≡ Branch) where
    is_branch_lem : (at (code_of s) (e / 2)).kind ≡ Branch
    is_branch_lem = ap (λ (x : Bytecode). x.kind) (sym q) ∙ b

    -- it is the offset of its label
    pub target_is : get_or targets e 0 ≡ label_offset (code_of s) (target_of (code_of s) e)
    target_is =
        sym (ap offset_of (h.resolved.each e (omega (arith, size h.known)) (subst (λ (z : ℕ). z < no_label) (sym (target_slot (code_of s) e is_branch_lem)) (target_low (code_of s) e (omega (arith, ap (λ (z : Bytecode). z.one) q)) (omega (arith, ap (λ (z : Bytecode). z.two) q))))))
        ∙ ap (label_offset (code_of s)) (target_slot (code_of s) e is_branch_lem)

    pub target_inside : get_or targets e 0 < n
    target_inside =
        omega (arith, target_is, size h.known, ((code_sound s h.known.accepted).named (e / 2) (target_of (code_of s) e) (omega (arith, size h.known)) (target_named (code_of s) e is_branch_lem)).inside)

    -- the references that it loses
    lost_branch : (refs : ℕ) → lost_refs (code_of s) (infos_of n info) refs e ≡ members max_locals (lost_by targets info refs e r)
    unfolding lost_refs lost_by
    lost_branch refs =
        ap (λ (t : Bool). elim t as (λ _. List ℕ) [ true ↦ members max_locals (minus (bit_and (info_at (infos_of n info) (e / 2)).after refs) (info_at (infos_of n info) (label_offset (code_of s) (target_of (code_of s) e))).before) | false ↦ [] ]) (eq-eqb (at (code_of s) (e / 2)).kind 4 is_branch_lem)
        ∙ ap₂ (λ (u v : ℕ). members max_locals (minus (bit_and u refs) v)) (ap (λ (i : LiveVarInfo). i.after) (sides_are info n (e / 2) (omega arith)))
        (ap (λ (o : ℕ). (info_at (infos_of n info) o).before) (sym target_is) ∙ ap (λ (i : LiveVarInfo). i.before) (sides_are info n (get_or targets e 0) target_inside))
        ∙ sym (ap (λ (t : Bool). members max_locals (cond t (minus (bit_and (sides_at info (e / 2)).after refs) (sides_at info (get_or targets e 0)).before) 0)) (eq-eqb r.kind Branch b))

  lost_other : (refs e : ℕ) (r : Bytecode) → e < 2 * n → r ≡ at (code_of s) (e / 2) → (r.kind ≡ Branch → ⊥) → lost_refs (code_of s) (infos_of n info) refs e ≡ members max_locals (lost_by targets info refs e r)
  unfolding lost_refs lost_by
  lost_other refs e r l q b =
      ap (λ (t : Bool). elim t as (λ _. List ℕ) [ true ↦ members max_locals (minus (bit_and (info_at (infos_of n info) (e / 2)).after refs) (info_at (infos_of n info) (label_offset (code_of s) (target_of (code_of s) e))).before) | false ↦ [] ])
      (ne_eqb (at (code_of s) (e / 2)).kind 4 (λ w. b (ap (λ (x : Bytecode). x.kind) q ∙ w)))
      ∙ sym (ap (λ (t : Bool). members max_locals (cond t (minus (bit_and (sides_at info (e / 2)).after refs) (sides_at info (get_or targets e 0)).before) 0)) (ne_eqb r.kind Branch b) ∙ walk_end max_locals 0)

  -- either way
  pub lost_is : (refs e : ℕ) (r : Bytecode) → e < 2 * n → r ≡ at (code_of s) (e / 2) → r.one < no_label → r.two < no_label → lost_refs (code_of s) (infos_of n info) refs e ≡ members max_locals (lost_by targets info refs e r)
  lost_is refs e r l q x y = by_eq r.kind 4 (λ b. lost_branch e r l q x y b refs) (λ b. lost_other refs e r l q b)

-- by the code
pub lost_none : (targets info : List ℕ) (refs e m : ℕ) (r : Bytecode) → (r.kind ≡ Branch → ⊥) → m ≡ 0 → m ≡ lost_by targets info refs e r
unfolding lost_by
lost_none targets info refs e m r b z = z ∙ sym (ap (λ (t : Bool). cond t (minus (bit_and (sides_at info (e / 2)).after refs) (sides_at info (get_or targets e 0)).before) 0) (ne_eqb r.kind Branch b))

pub lost_some : (targets info : List ℕ) (refs e a c w m : ℕ) (r : Bytecode) → r.kind ≡ Branch → a ≡ (sides_at info (e / 2)).after → c ≡ bit_and a refs → w ≡ (sides_at info (get_or targets e 0)).before → m ≡ minus c w
    → m ≡ lost_by targets info refs e r
unfolding lost_by
lost_some targets info refs e a c w m r b ea ec ew em =
    em ∙ ap₂ minus (ec ∙ ap (λ (x : ℕ). bit_and x refs) ea) ew
    ∙ sym (ap (λ (t : Bool). cond t (minus (bit_and (sides_at info (e / 2)).after refs) (sides_at info (get_or targets e 0)).before) 0) (eq-eqb r.kind Branch b))

-- ---- the pass

pub planned_none : (code : List Bytecode) (info : List LiveVarInfo) (refs : ℕ) (fates : List Fate) (lost : List ℕ) → Planned code info refs fates lost 0
planned_none code info refs fates lost = record { fate = λ j l. absurd (omega arith); edge = λ e l. absurd (omega arith) }

-- offset k: a and b are what its edges lose
pub planned_more : {s targets info : List ℕ} {n : ℕ} (h : Ready s targets info n) (refs k : ℕ) {f : Fate} {r : Bytecode} {fates : List Fate} {lost : List ℕ} {a b : ℕ} → k < n → k < length fates → 2 * k + 1 < length lost
    → r ≡ at (code_of s) k → r.one < no_label → r.two < no_label → f ≡ fate_of (code_of s) (infos_of n info) k → a ≡ lost_by targets info refs (2 * k) r → b ≡ lost_by targets info refs (2 * k + 1) r
    → Planned (code_of s) (infos_of n info) refs fates lost k → Planned (code_of s) (infos_of n info) refs (set fates k f) (set (set lost (2 * k) a) (2 * k + 1) b) (k + 1)
planned_more {s} {targets} {info} {n} h refs k {f} {r} {fates} {lost} {a} {b} l in-fates in-lost q x y ef ea eb p = record { fate = fate; edge = edge }
  where
    new : List ℕ
    new = set (set lost (2 * k) a) (2 * k + 1) b

    one : get_or new (2 * k) 0 ≡ a
    one = get_or-set_other (set lost (2 * k) a) (2 * k + 1) (2 * k) b 0 (λ z. omega arith) ∙ get_or-set_same lost (2 * k) a 0 (omega arith)

    two : get_or new (2 * k + 1) 0 ≡ b
    two = get_or-set_same (set lost (2 * k) a) (2 * k + 1) b 0 (omega (arith, length-set lost (2 * k) a))

    others : (e : ℕ) → e < 2 * k → get_or new e 0 ≡ get_or lost e 0
    others e g = get_or-set_other (set lost (2 * k) a) (2 * k + 1) e b 0 (λ z. omega arith) ∙ get_or-set_other lost (2 * k) e a 0 (λ z. omega arith)

    fate : (j : ℕ) → j < k + 1 → fate_at (set fates k f) j ≡ fate_of (code_of s) (infos_of n info) j
    fate j i =
        by_eq j k (λ e. ap (λ (y : ℕ). fate_at (set fates k f) y) e ∙ get_or-set_same fates k f Kept in-fates ∙ ef ∙ ap (fate_of (code_of s) (infos_of n info)) (sym e))
        (λ g. get_or-set_other fates k j f Kept g ∙ p.fate j (omega arith))

    here_is : (e : ℕ) → e / 2 ≡ k → get_or new e 0 ≡ lost_by targets info refs e r → lost_refs (code_of s) (infos_of n info) refs e ≡ lost_at new e
    here_is e z w = lost_is h refs e r (omega arith) (q ∙ ap (at (code_of s)) (sym z)) x y ∙ ap (members max_locals) (sym w)

    edge : (e : ℕ) → e < 2 * (k + 1) → lost_refs (code_of s) (infos_of n info) refs e ≡ lost_at (set (set lost (2 * k) a) (2 * k + 1) b) e
    edge e i =
        by_lt e (2 * k) (λ g. p.edge e g ∙ ap (members max_locals) (sym (others e g)))
        (λ g. by_eq e (2 * k) (λ z. subst (λ (y : ℕ). lost_refs (code_of s) (infos_of n info) refs y ≡ lost_at new y) (sym z) (here_is (2 * k) (omega arith) (one ∙ ea)))
        (λ z. let w : e ≡ 2 * k + 1 = omega arith in subst (λ (y : ℕ). lost_refs (code_of s) (infos_of n info) refs y ≡ lost_at new y) (sym w) (here_is (2 * k + 1) (omega arith) (two ∙ eb))))

pub planned_end : {code : List Bytecode} {info : List LiveVarInfo} {refs : ℕ} {fates : List Fate} {lost : List ℕ} (k n : ℕ) → k ≡ n → Planned code info refs fates lost k → Planned code info refs fates lost n
planned_end {code} {info} {refs} {fates} {lost} k n e p = subst (Planned code info refs fates lost) e p
