-- The key of each offset's block, from the keys of the lowers: one offset after the other takes its own key or else that of the offset before. Assumes nothing.
use Rattle.std.specs.Prelude.{◌≡◌, Option, Some, None, unwrap_or, refl, Bool, true, false, cond, List, ℕ, zero, suc, ◌+◌, ◌<◌, get_or, set, length}
use Rattle.std.proofs.Common.{sym, ◌∙◌, true≢false, arith, get_or-set_same, get_or-set_other, ap}
use Rattle.base.specs.Numbering.{number_of}
use Rattle.base.specs.NumberingLaws.{number_in_list}
use Rattle.base.specs.Lists.{has, place}
use Rattle.base.specs.ListLaws.{by_test, by_eq, in_has, has_in}
use Rattle.stackless_bytecode.specs.declared.Bytecode.{Bytecode}
use Rattle.stackless_bytecode.specs.Sound.{Sound}
use Rattle.stackless_control_flow_graph.specs.Arrays.{key_in}
use Rattle.stackless_control_flow_graph.specs.Blocks.{starts, lower_of, keyed, key_of}
use Rattle.stackless_control_flow_graph.specs.BlockLaws.{lower_start, lower_next, keyed_in, in_keyed}

-- the first k offsets have the keys of their blocks, and `last` is the key of the offset before k
pub record Spreading (code : List Bytecode) (out : List ℕ) (k last : ℕ) : Type 0 where
  pub each : (j : ℕ) → j < k → get_or out j 0 ≡ key_of (keyed code) (lower_of code j)
  pub before : (j : ℕ) → suc j ≡ k → last ≡ key_of (keyed code) (lower_of code j)

pub spread_begin : (code : List Bytecode) (out : List ℕ) → Spreading code out 0 0
spread_begin code out = record { each = λ j h. absurd (omega arith); before = λ j e. absurd (omega arith) }

-- the key of a block, where one starts, or else the last
abbrev pub key_or : Option ℕ → ℕ → ℕ
key_or None last = last
key_or (Some key) last = key

-- where 0 stands for none: a key that is there is taken
pub key_there : (ks : List ℕ) (k x last : ℕ) → x ≡ key_in ks k → (x ≡ 0 → ⊥) → x ≡ key_or (number_of 2 ks k) last
unfolding number_of
key_there ks k x last is g =
    by_test (λ b. x ≡ unwrap_or (cond b (Some (2 + place k ks)) None) 0 → x ≡ key_or (cond b (Some (2 + place k ks)) None) last) (has k ks) (λ e p. p) (λ e p. absurd (g p)) is

-- and else the last
pub key_none : (ks : List ℕ) (k x last : ℕ) → x ≡ key_in ks k → x ≡ 0 → last ≡ key_or (number_of 2 ks k) last
unfolding number_of
key_none ks k x last is z =
    by_test (λ b. x ≡ unwrap_or (cond b (Some (2 + place k ks)) None) 0 → last ≡ key_or (cond b (Some (2 + place k ks)) None) last) (has k ks) (λ e p. absurd (omega arith)) (λ e p. refl) is

module _ (code : List Bytecode) (sound : Sound code) where
  module _ (out : List ℕ) (k last last' : ℕ) (inside : k < length code) (is : last' ≡ key_or (number_of 2 (keyed code) k) last) (s : Spreading code out k last) where
    -- a lower has its own
    lower : has k (keyed code) ≡ true → last' ≡ key_of (keyed code) (lower_of code k)
    lower e =
        let own : 2 + place k (keyed code) ≡ key_of (keyed code) k = unfold key_of in omega arith in
        is ∙ ap (λ (n : Option ℕ). key_or n last) (number_in_list 2 (keyed code) k (has_in k (keyed code) e)) ∙ own
        ∙ ap (key_of (keyed code)) (sym (lower_start code k (in_keyed code sound k (has_in k (keyed code) e)).starts))

    -- any other offset is in the block of the offset before
    inner : has k (keyed code) ≡ false → last' ≡ key_of (keyed code) (lower_of code k)
    inner e =
        let none : number_of 2 (keyed code) k ≡ None = unfold number_of in ap (λ (b : Bool). cond b (Some (2 + place k (keyed code))) None) e in
        is ∙ ap (λ (n : Option ℕ). key_or n last) none
        ∙ by_test (λ b. starts code k ≡ b → last ≡ key_of (keyed code) (lower_of code k)) (starts code k)
        (λ t q. absurd (true≢false (sym (in_has k (keyed code) (keyed_in code k (record { inside = inside; starts = t }))) ∙ e)))
        (λ f q. go k f refl) refl
      where
        go : (i : ℕ) → starts code i ≡ false → i ≡ k → last ≡ key_of (keyed code) (lower_of code i)
        go zero f q = unfold starts in absurd (true≢false f)
        go (suc i) f q = s.before i q ∙ ap (key_of (keyed code)) (sym (lower_next code i f))

    here : last' ≡ key_of (keyed code) (lower_of code k)
    here = by_test (λ b. has k (keyed code) ≡ b → last' ≡ key_of (keyed code) (lower_of code k)) (has k (keyed code)) (λ e q. lower e) (λ e q. inner e) refl

    pub spread_more : k < length out → Spreading code (set out k last') (k + 1) last'
    spread_more room = record {
      each = λ j h. by_eq j k (λ e. ap (λ (x : ℕ). get_or (set out k last') x 0) e ∙ get_or-set_same out k last' 0 room ∙ here ∙ ap (λ (x : ℕ). key_of (keyed code) (lower_of code x)) (sym e))
          (λ g. get_or-set_other out k j last' 0 g ∙ s.each j (omega arith));
      before = λ j e. here ∙ ap (λ (x : ℕ). key_of (keyed code) (lower_of code x)) (omega arith);
    }
