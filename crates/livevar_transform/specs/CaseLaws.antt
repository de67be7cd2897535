-- What is dropped and what is merged in a sheet of n instructions, and the highest Label, case by case. Assumes nothing.
use Rattle.std.specs.Prelude.{◌≡◌, ◌⊎◌, Bool, true, false, ◌&&◌, List, [], ◌∷◌, get_or, cond, not, ◌||◌, ℕ, ◌+◌, ◌<◌, eqb, max}
use Rattle.std.proofs.Common.{sym, ap, ap₂, ◌∙◌, inl, inr, arith, eq-eqb, ne_eqb}
use Rattle.dataflow_domains.specs.Mask.{holds}
use Rattle.stackless_bytecode.specs.declared.Bytecode.{Bytecode}
use Rattle.stackless_bytecode.specs.Kinds.{Assign, Call, Load, Label, at, label_of}
use Rattle.sheet.specs.Layout.{code_of, instruction_at}
use Rattle.livevar_analysis.specs.Analysis.{LiveVarInfo, infos_of}
use Rattle.livevar_analysis.specs.InputLaws.{code_at}
use Rattle.livevar_transform.specs.Rewrite.{is_dead, is_merged, highest}
use Rattle.livevar_transform.specs.PieceLaws.{is_merged_lem, merged_inside}
use Rattle.livevar_transform.specs.Walk.{dead_in}
use Rattle.livevar_transform.specs.Plan.{Known, sides_at}
use Rattle.livevar_transform.specs.PlanLaws.{sides_are, size, merged_is}

-- ---- the highest Label

-- a Label raises it to its number, and another instruction leaves it
pub label_raised : (t x : ℕ) (r : Bytecode) → r.kind ≡ Label → x ≡ max t r.one → x ≡ max t (highest (label_of r))
unfolding label_of highest
label_raised t x r q e = e ∙ (omega arith) ∙ sym (ap (λ (b : Bool). max t (highest (cond b (r.one ∷ []) []))) (eq-eqb r.kind Label q))

pub label_same : (t : ℕ) (r : Bytecode) → (r.kind ≡ Label → ⊥) → t ≡ max t (highest (label_of r))
unfolding label_of highest
label_same t r q = (omega arith) ∙ sym (ap (λ (b : Bool). max t (highest (cond b (r.one ∷ []) []))) (ne_eqb r.kind Label q))

-- ---- what is dropped

-- m is the set after an Assign or a Load r, and b whether it has the destination
pub dead_by : (m : ℕ) (i : LiveVarInfo) (r : Bytecode) (b : Bool) → (r.kind ≡ Assign) ⊎ (r.kind ≡ Load) → m ≡ i.after → b ≡ holds m (get_or r.dsts 0 0) → not b ≡ dead_in r i
unfolding dead_in
dead_by m i r b q f g =
    ap not (g ∙ ap (λ (x : ℕ). holds x (get_or r.dsts 0 0)) f) ∙ sym (ap (λ (t : Bool). t && not (holds i.after (get_or r.dsts 0 0))) (either q))
  where
    either : (r.kind ≡ Assign) ⊎ (r.kind ≡ Load) → eqb r.kind Assign || eqb r.kind Load ≡ true
    either (inl z) = ap (λ (x : ℕ). eqb x 0 || eqb x 3) z
    either (inr z) = ap (λ (x : ℕ). eqb x 0 || eqb x 3) z

-- another instruction is not dropped by its sets
pub dead_not : (i : LiveVarInfo) (r : Bytecode) → (r.kind ≡ Assign → ⊥) → (r.kind ≡ Load → ⊥) → false ≡ dead_in r i
unfolding dead_in
dead_not i r a b = sym (ap₂ (λ (x y : Bool). (x || y) && not (holds i.after (get_or r.dsts 0 0))) (ne_eqb r.kind Assign a) (ne_eqb r.kind Load b))

module _ {s info : List ℕ} {n : ℕ} (h : Known s info n) where
  at_is : (k : ℕ) → k < n → at (code_of s) k ≡ instruction_at s k
  at_is k l = code_at s h.accepted k (omega (arith, h.count))

  -- of instruction k, by its bytes
  pub dead_at : (k : ℕ) (r : Bytecode) → k < n → r ≡ instruction_at s k → is_dead (code_of s) (infos_of n info) k ≡ dead_in r (sides_at info k)
  unfolding is_dead dead_in
  dead_at k r l e =
      ap₂ (λ (x : Bytecode) (i : LiveVarInfo). (eqb x.kind Assign || eqb x.kind Load) && not (holds i.after (get_or x.dsts 0 0))) (at_is k l ∙ sym e) (sides_are info n k l)

  -- ---- what is merged

  -- a Call r with one destination, an Assign a from it behind; m is the set after a, and b whether it has the destination
  pub merged_by_lem : (k m : ℕ) (r a : Bytecode) (b : Bool) → k + 1 < n → r ≡ instruction_at s k → a ≡ instruction_at s (k + 1) → r.kind ≡ Call → r.ndst ≡ 1 → a.kind ≡ Assign
      → get_or a.srcs 0 0 ≡ get_or r.dsts 0 0 → m ≡ (sides_at info (k + 1)).after → b ≡ holds m (get_or r.dsts 0 0) → not b ≡ is_merged (code_of s) (infos_of n info) k
  merged_by_lem k m r a b l e g call one assign from f q =
      merged_is (code_of s) info n k r (e ∙ sym (at_is k (omega arith))) (g ∙ sym (at_is (k + 1) l)) m l (eq-eqb _ _ call) one (eq-eqb _ _ assign) from f q

  -- there is code behind a merged Call
  pub merged_next : (k : ℕ) → is_merged (code_of s) (infos_of n info) k ≡ true → k + 1 < n
  merged_next k e = omega (arith, size h, merged_inside (code_of s) (infos_of n info) k (is_merged_lem (code_of s) (infos_of n info) k e))
