-- What holds of the blocks and the keys of every code that the checks let through. Assumes nothing.
use Rattle.std.specs.Prelude.{◌≡◌, refl, Bool, false, ◌||◌, ℕ, zero, suc, ◌+◌, ◌-◌, ◌≤◌, ◌<◌, true, List, get_or, length}
use Rattle.std.proofs.Common.{sym, ap, ◌∙◌, inl, inr, arith}
use mathlib.Core.List.{Memᴰ}
use Rattle.base.specs.Lists.{any, place}
use Rattle.base.specs.ListLaws.{by_test, by_eq, get_d_in, place_lt, get_d_place, place_get_d}
use Rattle.stackless_bytecode.specs.declared.Bytecode.{Bytecode}
use Rattle.stackless_bytecode.specs.Kinds.{at, is_branch, label_of}
use Rattle.stackless_bytecode.specs.Labels.{lookup, is_named}
use Rattle.stackless_bytecode.specs.Successors.{successors}
use Rattle.stackless_bytecode.specs.Sound.{Sound}
use Rattle.stackless_control_flow_graph.specs.Blocks.{starts, lowers, blocks_of, lower_of, upper_of, keyed, key_of}
use Rattle.stackless_control_flow_graph.specs.BlockLaws.{Last, succs_start, upper_le, upper_lt, upper_last, upper_stop, lower_start, lower_next, lower_starts, lower_le, upper_lower, keyed_in, in_keyed, keyed_distinct}
use Rattle.stackless_control_flow_graph.specs.Blocks.{Start}
use Rattle.stackless_control_flow_graph.specs.FlowLaws.{lowers_in, keys_blocks}

module _ (code : List Bytecode) where
  -- ---- the blocks cut the offsets into intervals

  -- offset k is in the block from a lower to its upper
  pub record InBlock (k : ℕ) : Type 0 where
    pub is_lower : Memᴰ (lower_of code k) (lowers code)
    pub from : lower_of code k ≤ k
    pub to : k ≤ upper_of code (lower_of code k)
    pub inside : upper_of code (lower_of code k) < length code

  -- every offset is in one
  pub blocks_cover : (k : ℕ) → k < length code → InBlock k
  blocks_cover k h = record {
    is_lower = lowers_in code (lower_of code k) (record { inside = omega (arith, lower_le code k); starts = lower_starts code k });
    from = lower_le code k;
    to = omega (arith, upper_lower code k h, upper_le code k);
    inside = omega (arith, upper_lower code k h, upper_lt code k h);
  }

  -- and in no other
  pub blocks_apart : (o k : ℕ) → Start code o → o ≤ k → k ≤ upper_of code o → lower_of code k ≡ o
  blocks_apart o k s l h = go k (k - o) (omega arith) l h
    where
      -- d behind o
      go : (j d : ℕ) → j ≡ o + d → o ≤ j → j ≤ upper_of code o → lower_of code j ≡ o
      go j zero e m t = let q : j ≡ o = omega arith in ap (lower_of code) q ∙ lower_start code o s.starts
      go zero (suc d) e m t = absurd (omega arith)
      go (suc j) (suc d) e m t =
          let before : lower_of code j ≡ o = go j d (omega arith) (omega arith) (omega arith) in
          let inner : upper_of code o < length code = upper_lt code o s.inside in
          let same : upper_of code j ≡ upper_of code o = sym (upper_lower code j (omega arith)) ∙ ap (upper_of code) before in
          by_test (λ b. starts code (suc j) ≡ b → lower_of code (suc j) ≡ o) (starts code (suc j))
          (λ t' q. absurd (omega (arith, same, upper_stop code j (omega arith) (starts_last j t'))))
          (λ f q. lower_next code j f ∙ before) refl
        where
          starts_last : (i : ℕ) → starts code (suc i) ≡ true → Last code i
          starts_last i q = unfold Last in inr q

  -- ---- inside a block only the last instruction branches

  pub branch_last : (k : ℕ) → k < length code → is_branch (at code k) ≡ true → upper_of code k ≡ k
  branch_last k h e = upper_stop code k h (unfold Last in by_eq (suc k) (length code) (λ q. inl q) (λ q. inr (behind)))
    where
      behind : starts code (suc k) ≡ true
      behind = unfold starts in ap (λ (b : Bool). b || any (λ l. is_named (lookup code l)) (label_of (at code (suc k)))) e

  pub inner_quiet : (k : ℕ) → k < length code → k < upper_of code k → is_branch (at code k) ≡ false
  inner_quiet k h l = by_test (λ b. is_branch (at code k) ≡ b → b ≡ false) (is_branch (at code k)) (λ e q. absurd (omega (arith, branch_last k h e))) (λ e q. refl) refl

  module _ (sound : Sound code) where
    -- ---- the successors of a block's last instruction are lowers of blocks

    pub succs_lower : (o x : ℕ) → Start code o → Memᴰ x (successors code (upper_of code o)) → Memᴰ x (lowers code)
    succs_lower o x s i =
        lowers_in code x (succs_start code sound (upper_of code o) x (upper_lt code o s.inside) (upper_last code o s.inside) i)

    -- ---- keys are 2 to one more than the number of blocks, each once

    pub keys_from : (o : ℕ) → 2 ≤ key_of (keyed code) o
    unfolding key_of
    keys_from o = omega arith

    pub keys_to : (o : ℕ) → Start code o → key_of (keyed code) o ≤ blocks_of code + 1
    unfolding key_of
    keys_to o s = omega (arith, place_lt o (keyed code) (keyed_in code o s), keys_blocks code sound)

    pub keys_once : (o o' : ℕ) → Start code o → Start code o' → key_of (keyed code) o ≡ key_of (keyed code) o' → o ≡ o'
    unfolding key_of
    keys_once o o' s t e =
        let p : place o (keyed code) ≡ place o' (keyed code) = omega arith in
        sym (get_d_place o (keyed code) (keyed_in code o s)) ∙ ap (λ (i : ℕ). get_or (keyed code) i 0) p ∙ get_d_place o' (keyed code) (keyed_in code o' t)

    -- some block has key j
    pub record Keyed (j : ℕ) : Type 0 where
      pub lower : ℕ
      pub start : Start code lower
      pub is : key_of (keyed code) lower ≡ j

    pub keys_all : (j : ℕ) → 2 ≤ j → j ≤ blocks_of code + 1 → Keyed j
    unfolding key_of
    keys_all j l h =
        let i = j - 2 in
        let inside : j - 2 < length (keyed code) = omega (arith, keys_blocks code sound) in
        record {
          lower = get_or (keyed code) (j - 2) 0;
          start = in_keyed code sound (get_or (keyed code) (j - 2) 0) (get_d_in (keyed code) (j - 2) 0 inside);
          is = omega (arith, place_get_d (j - 2) (keyed_distinct code) inside);
        }
