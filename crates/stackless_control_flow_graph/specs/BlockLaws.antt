-- Blocks and keys of code that the checks let through. Assumes nothing.
use Rattle.std.specs.Prelude.{◌≡◌, ◌⊎◌, Bool, cond, not, ◌||◌, eqb, refl, true, false, List, [], ◌∷◌, ◌++◌, map, ℕ, zero, suc, ◌+◌, ◌-◌, ◌≤◌, ◌<◌, length}
use Rattle.std.proofs.Common.{sym, ap, subst, ap₂, ◌∙◌, true≢false, inl, inr, ⊎_elim, arith}
use Rattle.std.proofs.Math.Bool.{not-not}
use mathlib.Core.List.Memᴰ
use mathlib.Core.List.{Memᴰ}
use Rattle.std.proofs.lemmas.Bool.{not-false}
use Rattle.stackless_bytecode.specs.declared.Bytecode.{Bytecode}
use Rattle.base.specs.Lists.{keep, any, Distinct}
use Rattle.stackless_bytecode.specs.Kinds.{Branch, Jump, at, is_exit, is_flagged, is_branch, falls_through, branch_dests, label_of}
use Rattle.stackless_bytecode.specs.Labels.{lookup, is_named, label_offset}
use Rattle.stackless_bytecode.specs.LookupLaws.{named_at}
use Rattle.stackless_bytecode.specs.Successors.{ascending, successors}
use Rattle.stackless_control_flow_graph.specs.Blocks.{starts, Start, lowers, lower_of, up_from, upper_of, keyed}
use Rattle.stackless_bytecode.specs.SuccessorLaws.{in_ascending}
use Rattle.stackless_bytecode.specs.Sound.{Sound}
use Rattle.base.specs.ListLaws.{or-false, by_test, by_eq, any_in, keep_in, in_keep, gather_in, in_gather, in_map, firsts_in, in_firsts, firsts_distinct}

-- a block ends at k
unfoldable pub Last : List Bytecode → ℕ → Type 0
Last code k = (suc k ≡ length code) ⊎ (starts code (suc k) ≡ true)

-- ---- what does not end a block has the next offset for its one successor

quiet_names : (r : Bytecode) → is_branch r ≡ false → branch_dests r ≡ []
unfolding is_branch falls_through branch_dests
quiet_names r e =
    let both = or-false (not (falls_through r)) (is_flagged r) e in
    let on = or-false (eqb r.kind Branch || eqb r.kind Jump) (is_exit r) (sym (not-not (eqb r.kind Branch || eqb r.kind Jump || is_exit r)) ∙ both.0) in
    let kinds = or-false (eqb r.kind Branch) (eqb r.kind Jump) on.0 in
    ap₂ (λ (a b : Bool). cond a (r.one ∷ r.two ∷ []) (cond b (r.one ∷ []) [])) kinds.0 (ap₂ ◌||◌ kinds.1 both.1)

quiet_falls : (r : Bytecode) → is_branch r ≡ false → falls_through r ≡ true
unfolding is_branch
quiet_falls r e = not-false (falls_through r) (or-false (not (falls_through r)) (is_flagged r) e).0

pub succs_quiet : (code : List Bytecode) (k : ℕ) → is_branch (at code k) ≡ false → successors code k ≡ suc k ∷ []
unfolding successors ascending
succs_quiet code k quiet =
    ap₂ (λ (ns : List ℕ) (b : Bool). ascending (map (label_offset code) ns ++ cond b (suc k ∷ []) [])) (quiet_names (at code k) quiet) (quiet_falls (at code k) quiet)

pub succs_mid : (code : List Bytecode) (k : ℕ) → starts code (suc k) ≡ false → successors code k ≡ suc k ∷ []
unfolding starts
succs_mid code k e = succs_quiet code k (or-false (is_branch (at code k)) (any (λ l. is_named (lookup code l)) (label_of (at code (suc k)))) e).0

-- ---- what ends a block has starts for successors

-- a named Label starts a block
label_starts : (code : List Bytecode) (o l : ℕ) → Memᴰ l (label_of (at code o)) → is_named (lookup code l) ≡ true → starts code o ≡ true
unfolding starts
label_starts code zero l i e = refl
label_starts code (suc o) l i e =
    by_test (λ b. b || any (λ x. is_named (lookup code x)) (label_of (at code (suc o))) ≡ true) (is_branch (at code o)) (λ _. refl)
    (λ _. any_in (λ x. is_named (lookup code x)) (label_of (at code (suc o))) l i e)

-- so does every label that is named
pub named_starts : (code : List Bytecode) → Sound code → (k l : ℕ) → k < length code → Memᴰ l (branch_dests (at code k)) → starts code (label_offset code l) ≡ true
named_starts code sound k l h i =
    let d = sound.named k l h i in label_starts code (label_offset code l) l d.label (ap is_named (named_at code k l h i d))

pub succs_start : (code : List Bytecode) → Sound code → (k o : ℕ) → k < length code → Last code k → Memᴰ o (successors code k) → Start code o
unfolding successors Last
succs_start code sound k o h last i =
    ⊎_elim named next (Memᴰ.append_cases (map (label_offset code) (branch_dests (at code k))) (in_ascending o _ i))
  where
    named : Memᴰ o (map (label_offset code) (branch_dests (at code k))) → Start code o
    named m =
        let r = in_map (label_offset code) (branch_dests (at code k)) o m in
        subst (λ (x : ℕ). Start code x) (sym r.2) (record {
          inside = (sound.named k r.0 h r.1).inside;
          starts = named_starts code sound k r.0 h r.1;
        })

    next : Memᴰ o (cond (falls_through (at code k)) (suc k ∷ []) []) → Start code o
    next =
        by_test (λ b. Memᴰ o (cond b (suc k ∷ []) []) → Start code o) (falls_through (at code k))
        (λ e m. subst (λ (x : ℕ). Start code x) (sym (Memᴰ.eq_of_singleton m)) (⊎_elim
        (λ q. absurd (true≢false (sym e ∙ ap (λ (x : ℕ). falls_through (at code x)) (ends_at q) ∙ sound.closed)))
        (λ s. record { inside = within s e; starts = s }) last))
        (λ e m. absurd (Memᴰ.not-nil m))
      where
        ends_at : suc k ≡ length code → k ≡ length code - 1
        ends_at q = omega arith

        within : starts code (suc k) ≡ true → falls_through (at code k) ≡ true → suc k < length code
        within s e =
            by_eq (suc k) (length code) (λ q. absurd (true≢false (sym e ∙ ap (λ (x : ℕ). falls_through (at code x)) (ends_at q) ∙ sound.closed)))
            (λ g. omega arith)

-- ---- the end of a block

module _ (code : List Bytecode) where
  n : ℕ
  n = length code

  up_le : (d k : ℕ) → k ≤ up_from code d k
  unfolding up_from
  up_le zero k = omega arith
  up_le (suc d) k =
      by_test (λ b. k ≤ elim b as (λ _. ℕ) [ true ↦ k | false ↦ up_from code d (suc k) ]) (starts code (suc k)) (λ e. omega arith)
      (λ e. omega (arith, up_le d (suc k)))

  up_high : (d k : ℕ) → up_from code d k ≤ k + d
  unfolding up_from
  up_high zero k = omega arith
  up_high (suc d) k =
      by_test (λ b. elim b as (λ _. ℕ) [ true ↦ k | false ↦ up_from code d (suc k) ] ≤ k + suc d) (starts code (suc k)) (λ e. omega arith)
      (λ e. omega (arith, up_high d (suc k)))

  up_last : (d k : ℕ) → suc (k + d) ≡ length code → Last code (up_from code d k)
  unfolding up_from Last
  up_last zero k h = inl (omega arith)
  up_last (suc d) k h =
      by_test (λ b. Last code (elim b as (λ _. ℕ) [ true ↦ k | false ↦ up_from code d (suc k) ])) (starts code (suc k)) (λ e. inr e)
      (λ e. up_last d (suc k) (omega arith))

  pub upper_le : (k : ℕ) → k ≤ upper_of code k
  unfolding upper_of
  upper_le k = up_le (length code - suc k) k

  pub upper_lt : (k : ℕ) → k < length code → upper_of code k < length code
  unfolding upper_of
  upper_lt k h = omega (arith, up_high (length code - suc k) k)

  pub upper_last : (k : ℕ) → k < length code → Last code (upper_of code k)
  unfolding upper_of
  upper_last k h = up_last (length code - suc k) k (omega arith)

  upper_is : (d k : ℕ) → suc (k + d) ≡ length code → upper_of code k ≡ up_from code d k
  unfolding upper_of
  upper_is d k h = let e : length code - suc k ≡ d = omega arith in ap (λ (x : ℕ). up_from code x k) e

  pub upper_next : (k : ℕ) → suc k < length code → starts code (suc k) ≡ false → upper_of code k ≡ upper_of code (suc k)
  unfolding up_from
  upper_next k h e =
      let d = length code - suc (suc k) in
      upper_is (suc d) k (omega arith)
      ∙ ap (λ (b : Bool). elim b as (λ _. ℕ) [ true ↦ k | false ↦ up_from code d (suc k) ]) e
      ∙ sym (upper_is d (suc k) (omega arith))

  pub upper_stop : (k : ℕ) → k < length code → Last code k → upper_of code k ≡ k
  unfolding up_from Last
  upper_stop k h (inl e) = upper_is 0 k (omega arith)
  upper_stop k h (inr e) =
      by_eq (suc k) (length code) (λ q. upper_is 0 k (omega arith))
      (λ g. let d = length code - suc (suc k) in
      upper_is (suc d) k (omega arith)
      ∙ ap (λ (b : Bool). elim b as (λ _. ℕ) [ true ↦ k | false ↦ up_from code d (suc k) ]) e)

  -- ---- the start of a block

  pub lower_start : (k : ℕ) → starts code k ≡ true → lower_of code k ≡ k
  unfolding lower_of
  lower_start zero e = refl
  lower_start (suc k) e = ap (λ (b : Bool). elim b as (λ _. ℕ) [ true ↦ suc k | false ↦ lower_of code k ]) e

  pub lower_next : (k : ℕ) → starts code (suc k) ≡ false → lower_of code (suc k) ≡ lower_of code k
  unfolding lower_of
  lower_next k e = ap (λ (b : Bool). elim b as (λ _. ℕ) [ true ↦ suc k | false ↦ lower_of code k ]) e

  pub lower_starts : (k : ℕ) → starts code (lower_of code k) ≡ true
  lower_starts zero = unfold lower_of starts in refl
  lower_starts (suc k) =
      by_test (λ b. starts code (suc k) ≡ b → starts code (lower_of code (suc k)) ≡ true) (starts code (suc k))
      (λ e q. ap (starts code) (lower_start (suc k) e) ∙ e) (λ e q. ap (starts code) (lower_next k e) ∙ lower_starts k) refl

  pub upper_lower : (k : ℕ) → k < length code → upper_of code (lower_of code k) ≡ upper_of code k
  upper_lower zero h = unfold lower_of in refl
  upper_lower (suc k) h =
      by_test (λ b. starts code (suc k) ≡ b → upper_of code (lower_of code (suc k)) ≡ upper_of code (suc k)) (starts code (suc k))
      (λ e q. ap (upper_of code) (lower_start (suc k) e))
      (λ e q. ap (upper_of code) (lower_next k e) ∙ upper_lower k (omega arith) ∙ upper_next k h e) refl

  pub lower_le : (k : ℕ) → lower_of code k ≤ k
  lower_le zero = unfold lower_of in omega arith
  lower_le (suc k) =
      by_test (λ b. starts code (suc k) ≡ b → lower_of code (suc k) ≤ suc k) (starts code (suc k))
      (λ e q. omega (arith, lower_start (suc k) e)) (λ e q. omega (arith, lower_next k e, lower_le k)) refl

  -- ---- the keys: every start has one, and nothing else

  pub keyed_in : (o : ℕ) → Start code o → Memᴰ o (keyed code)
  unfolding keyed lowers
  keyed_in o s =
      firsts_in [] _ o (gather_in (λ l. successors code (upper_of code l) ++ (l ∷ [])) (keep (length code) 0 (starts code))
      (keep_in (length code) 0 o (starts code) (omega arith) (omega (arith, s.inside)) s.starts)
      (Memᴰ.append_right (successors code (upper_of code o)) (Memᴰ.head refl)))

  pub in_keyed : Sound code → (o : ℕ) → Memᴰ o (keyed code) → Start code o
  unfolding keyed lowers
  in_keyed sound o i = ⊎_elim (λ z. absurd (Memᴰ.not-nil z)) (λ g. found (in_gather _ (keep (length code) 0 (starts code)) o g)) (in_firsts [] _ o i)
    where
      found : (l : ℕ) × Memᴰ l (keep (length code) 0 (starts code)) × Memᴰ o (successors code (upper_of code l) ++ (l ∷ [])) → Start code o
      found r =
          let kept = in_keep (length code) 0 r.0 (starts code) r.1 in
          let h : r.0 < length code = omega (arith, kept.high) in
          ⊎_elim (λ s. succs_start code sound (upper_of code r.0) o (upper_lt r.0 h) (upper_last r.0 h) s)
          (λ s. subst (λ (x : ℕ). Start code x) (sym (Memᴰ.eq_of_singleton s)) (record { inside = h; starts = kept.test }))
          (Memᴰ.append_cases (successors code (upper_of code r.0)) r.2)

  pub keyed_distinct : Distinct (keyed code)
  unfolding keyed
  keyed_distinct = firsts_distinct [] _ Distinct.empty
