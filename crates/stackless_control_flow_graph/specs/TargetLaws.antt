-- Blocks start at the targets of Branch, Jump and flagged Call, as in the source's `record_block_ids`: a named Label is such a target. Assumes nothing.
use Rattle.std.specs.Prelude.{◌≡◌, Bool, true, ◌||◌, ℕ, suc, ◌<◌, length, refl, false, List, map}
use Rattle.std.proofs.Common.{sym, ap, ◌∙◌, subst, true≢false}
use mathlib.Core.List.{Memᴰ}
use Rattle.base.specs.Lists.{gather, any, has}
use Rattle.base.specs.ListLaws.{by_test, any_in, in_any, has_in, in_has, gather_in, in_gather, map_in, in_map, get_d_in, in_get_d}
use Rattle.stackless_bytecode.specs.declared.Bytecode.{Bytecode}
use Rattle.stackless_bytecode.specs.Kinds.{nop, at, is_branch, branch_dests, label_of}
use Rattle.stackless_bytecode.specs.Labels.{lookup, is_named, label_offset}
use Rattle.stackless_bytecode.specs.LookupLaws.{offset_is, named_by, named_at}
use Rattle.stackless_bytecode.specs.Successors.{Unique}
use Rattle.stackless_bytecode.specs.Sound.{Sound}
use Rattle.stackless_control_flow_graph.specs.Blocks.{starts}

module _ (code : List Bytecode) (sound : Sound code) (once : Unique code) where
  -- the offsets of all labels that are named
  abbrev targets : List ℕ
  targets = map (label_offset code) (gather branch_dests code)

  named_target : (o l : ℕ) → o < length code → Memᴰ l (label_of (at code o)) → is_named (lookup code l) ≡ true → has o targets ≡ true
  named_target o l h i t =
      let by = named_by code l t in
      in_has o targets (subst (λ (x : ℕ). Memᴰ x targets) (offset_is code once o l h i) (map_in (label_offset code) (gather branch_dests code) (gather_in branch_dests code (get_d_in code by.0 nop by.1) by.2)))

  target_named : (o : ℕ) → has o targets ≡ true → any (λ l. is_named (lookup code l)) (label_of (at code o)) ≡ true
  target_named o e =
      let m = in_map (label_offset code) (gather branch_dests code) o (has_in o targets e) in
      let g = in_gather branch_dests code m.0 m.1 in
      let p = in_get_d code g.0 nop g.1 in
      let i = subst (λ (x : Bytecode). Memᴰ m.0 (branch_dests x)) (sym p.2) g.2 in
      let d = sound.named p.0 m.0 p.1 i in
      any_in (λ l. is_named (lookup code l)) (label_of (at code o)) m.0 (subst (λ (x : ℕ). Memᴰ m.0 (label_of (at code x))) (sym m.2) d.label) (ap is_named (named_at code p.0 m.0 p.1 i d))

  pub starts_targets : (k : ℕ) → suc k < length code → starts code (suc k) ≡ is_branch (at code k) || has (suc k) (map (label_offset code) (gather branch_dests code))
  unfolding starts
  starts_targets k h = ap (λ (b : Bool). is_branch (at code k) || b) same
    where
      same : any (λ l. is_named (lookup code l)) (label_of (at code (suc k))) ≡ has (suc k) targets
      same =
          by_test (λ b. any (λ l. is_named (lookup code l)) (label_of (at code (suc k))) ≡ b → b ≡ has (suc k) targets) (any (λ l. is_named (lookup code l)) (label_of (at code (suc k))))
          (λ t q. let r = in_any (λ l. is_named (lookup code l)) (label_of (at code (suc k))) t in sym (named_target (suc k) r.0 h r.1 r.2))
          (λ f q. by_test (λ b. has (suc k) targets ≡ b → false ≡ b) (has (suc k) targets) (λ t z. absurd (true≢false (sym (target_named (suc k) t) ∙ f))) (λ t z. refl) refl) refl
