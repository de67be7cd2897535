-- The blocks by offset, one offset a turn. Assumes nothing.
use Rattle.std.specs.Prelude.{◌≡◌, refl, Bool, true, false, cond, List, [], ◌∷◌, ◌++◌, ℕ, suc, ◌+◌, ◌-◌, ◌≤◌, ◌<◌, get_or, set, length, take}
use Rattle.std.proofs.Common.{sym, ap, ◌∙◌, subst, inl, inr, append-nil, zero-add, add-one, arith, take-suc-set, get_or-set_same, get_or-set_other}
use Rattle.base.specs.Lists.{keep}
use Rattle.base.specs.ListLaws.{by_eq}
use Rattle.stackless_bytecode.specs.declared.Bytecode.{Bytecode}
use Rattle.stackless_control_flow_graph.specs.Blocks.{starts, lowers, upper_of}
use Rattle.stackless_control_flow_graph.specs.BlockLaws.{Last, upper_stop, upper_next}
use Rattle.stackless_control_flow_graph.specs.Arrays.{marked_in, Marked, Uppers}
use Rattle.base.specs.GrowLaws.{keep_snoc, keep_agree}

-- ---- the lowers

pub marked_none : (marks : List Bool) → [] ≡ marked_in marks 0
unfolding marked_in keep
marked_none marks = refl

-- a turn
marked_next : (marks : List Bool) (k : ℕ) → marked_in marks (k + 1) ≡ marked_in marks k ++ cond (get_or marks k false) (k ∷ []) []
unfolding marked_in
marked_next marks k =
    let f : ℕ → Bool = λ j. get_or marks j false in
    ap (λ (x : ℕ). keep x 0 f) (add-one k) ∙ keep_snoc k 0 f ∙ ap (λ (x : ℕ). keep k 0 f ++ cond (f x) (x ∷ []) []) (zero-add k)

pub marked_on : (marks : List Bool) (out : List ℕ) (k c : ℕ) → get_or marks k false ≡ true → c < length out → take c out ≡ marked_in marks k → take (c + 1) (set out c k) ≡ marked_in marks (k + 1)
marked_on marks out k c on h e =
    ap (λ (n : ℕ). take n (set out c k)) (add-one c) ∙ take-suc-set out c k h ∙ ap (λ (l : List ℕ). l ++ (k ∷ [])) e
    ∙ sym (marked_next marks k ∙ ap (λ (b : Bool). marked_in marks k ++ cond b (k ∷ []) []) on)

pub marked_off : (marks : List Bool) (out : List ℕ) (k c : ℕ) → get_or marks k false ≡ false → take c out ≡ marked_in marks k → take c out ≡ marked_in marks (k + 1)
marked_off marks out k c off e = e ∙ sym (marked_next marks k ∙ ap (λ (b : Bool). marked_in marks k ++ cond b (k ∷ []) []) off ∙ append-nil (marked_in marks k))

-- the first n marks alone decide which offsets below n are marked
pub marked_same : (marks marks' : List Bool) (n : ℕ) → ((k : ℕ) → k < n → get_or marks k false ≡ get_or marks' k false) → marked_in marks n ≡ marked_in marks' n
unfolding marked_in
marked_same marks marks' n same = keep_agree n 0 (λ k. get_or marks k false) (λ k. get_or marks' k false) (λ k l h. same k (omega arith))

-- the end
pub marked_lowers : (code : List Bytecode) (marks : List Bool) → Marked code marks → marked_in marks (length code) ≡ lowers code
unfolding marked_in lowers
marked_lowers code marks m = keep_agree (length code) 0 (λ k. get_or marks k false) (starts code) (λ i l h. m.each i (omega arith))

-- ---- the last offset of a block

last_end : (code : List Bytecode) (k : ℕ) → suc k ≡ length code → Last code k
unfolding Last
last_end code k e = inl e

last_start : (code : List Bytecode) (k : ℕ) → starts code (suc k) ≡ true → Last code k
unfolding Last
last_start code k e = inr e

-- ---- the uppers, from the last offset down to k; the block of the offset before k ends before `end`

pub record Upping (code : List Bytecode) (uppers : List ℕ) (k end : ℕ) : Type 0 where
  pub each : (j : ℕ) → k ≤ j → j < length code → get_or uppers j 0 ≡ upper_of code j
  pub next : (j : ℕ) → suc j ≡ k → end ≡ suc (upper_of code j)

pub uppers_begin : (code : List Bytecode) (uppers : List ℕ) (n : ℕ) → length code ≡ n → Upping code uppers n n
uppers_begin code uppers n size = record {
  each = λ j l h. absurd (omega arith);
  next = λ j e. let last : suc j ≡ length code = e ∙ sym size in sym (ap suc (upper_stop code j (omega arith) (last_end code j last)) ∙ e);
}

uppers_more : (code : List Bytecode) (marks : List Bool) (uppers : List ℕ) (k end : ℕ) → Marked code marks → k < length code → k < length uppers → Upping code uppers (suc k) end
    → Upping code (set uppers k (end - 1)) k (cond (get_or marks k false) k end)
uppers_more code marks uppers k end m h room u = record { each = each; next = λ j e. next j e (starts code k) refl }
  where
    upper : end - 1 ≡ upper_of code k
    upper = omega (arith, u.next k refl)

    each : (j : ℕ) → k ≤ j → j < length code → get_or (set uppers k (end - 1)) j 0 ≡ upper_of code j
    each j l b =
        by_eq j k (λ e. ap (λ (x : ℕ). get_or (set uppers k (end - 1)) x 0) e ∙ get_or-set_same uppers k (end - 1) 0 room ∙ upper ∙ ap (upper_of code) (sym e))
        (λ g. get_or-set_other uppers k j (end - 1) 0 g ∙ u.each j (omega arith) b)

    next : (j : ℕ) → suc j ≡ k → (b : Bool) → starts code k ≡ b → cond (get_or marks k false) k end ≡ suc (upper_of code j)
    next j e true s =
        ap (λ (b : Bool). cond b k end) (m.each k h ∙ s)
        ∙ sym (ap suc (upper_stop code j (omega arith) (last_start code j (ap (starts code) e ∙ s))) ∙ e)
    next j e false s =
        ap (λ (b : Bool). cond b k end) (m.each k h ∙ s) ∙ u.next k refl
        ∙ ap suc (ap (upper_of code) (sym e) ∙ sym (upper_next code j (omega arith) (ap (starts code) e ∙ s)))

pub uppers_turn : (code : List Bytecode) (marks : List Bool) (uppers : List ℕ) (k end w end' : ℕ) → Marked code marks → 0 < k → k ≤ length code → k ≤ length uppers → w ≡ end - 1
    → end' ≡ cond (get_or marks (k - 1) false) (k - 1) end → Upping code uppers k end → Upping code (set uppers (k - 1) w) (k - 1) end'
uppers_turn code marks uppers k end w end' m some h room v e u =
    let up : k ≡ suc (k - 1) = omega arith in
    rw (v, e) (uppers_more code marks uppers (k - 1) end m (omega arith) (omega arith) (subst (λ (x : ℕ). Upping code uppers x end) up u))

pub uppers_end : (code : List Bytecode) (uppers : List ℕ) (end : ℕ) → Upping code uppers 0 end → Uppers code uppers
uppers_end code uppers end u = record { each = λ k h. u.each k (omega arith) h }
