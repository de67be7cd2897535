-- Where instructions are changed but for where they go, blocks, keys and successors are as they were. Assumes nothing.
use Rattle.std.specs.Prelude.{◌≡◌, Bool, not, ◌||◌, get_or, length, refl, true, false, cond, List, [], ◌∷◌, ◌++◌, map, ℕ, zero, suc, ◌-◌, Option, None, Some}
use Rattle.std.proofs.Common.{ap, ap₂, sym, ◌∙◌}
use Rattle.std.proofs.Math.Path.{fun_ext}
use Rattle.std.proofs.lemmas.List.{length-map}
use Rattle.std.proofs.Math.ListN.{get_or-map}
use Rattle.base.specs.Lists.{keep, gather, any, has, firsts, first_bad}
use Rattle.base.specs.SearchLaws.{bad_same}
use Rattle.stackless_bytecode.specs.declared.Bytecode.{Bytecode}
use Rattle.stackless_bytecode.specs.Kinds.{nop, at, is_branch, stop_ok, falls_through, branch_dests, label_of}
use Rattle.stackless_bytecode.specs.declared.Lookup.{Lookup}
use Rattle.stackless_bytecode.specs.declared.Lookup.TheVariants.{Named, Unnamed, Undefined}
use Rattle.stackless_bytecode.specs.Labels.{lookup, offset_of, is_named, label_offset}
use Rattle.stackless_bytecode.specs.Successors.{ascending, successors}
use Rattle.stackless_control_flow_graph.specs.Blocks.{starts, lowers, lower_of, up_from, upper_of, keyed, key_of}
use Rattle.stackless_control_flow_graph.specs.Backward.{nexts_of}

-- f changes nothing of where an instruction goes
pub record KeepsFlow (f : Bytecode → Bytecode) : Type 0 where
  pub past : f nop ≡ nop
  pub dests : (r : Bytecode) → branch_dests (f r) ≡ branch_dests r
  pub stop : (r : Bytecode) → stop_ok (f r) ≡ stop_ok r
  pub falls : (r : Bytecode) → falls_through (f r) ≡ falls_through r
  pub label : (r : Bytecode) → label_of (f r) ≡ label_of r
  pub ends : (r : Bytecode) → is_branch (f r) ≡ is_branch r

module _ {f : Bytecode → Bytecode} (same : KeepsFlow f) (code : List Bytecode) where
  pub at_alike : (k : ℕ) → at (map f code) k ≡ f (at code k)
  at_alike k = ap (get_or (map f code) k) (sym same.past) ∙ get_or-map f code k nop

  -- ---- successors

  length_alike : length (map f code) ≡ length code
  length_alike = length-map code f

  named_alike : (rs : List Bytecode) → gather branch_dests (map f rs) ≡ gather branch_dests rs
  named_alike [] = refl
  named_alike (r ∷ rs) = ap₂ (λ (a b : List ℕ). a ++ b) (same.dests r) (named_alike rs)

  pub lookup_alike : lookup (map f code) ≡ lookup code
  unfolding lookup
  lookup_alike = fun_ext each
    where
      answer : ℕ → Option ℕ → List ℕ → Lookup
      answer l x names = elim x [ None ↦ Undefined | Some o ↦ cond (has l names) (Named o) (Unnamed o) ]

      label : (k : ℕ) → label_of (at (map f code) k) ≡ label_of (at code k)
      label k = ap label_of (at_alike k) ∙ same.label _

      each : (l : ℕ) → lookup (map f code) l ≡ lookup code l
      each l =
          ap₂ (answer l)
          (ap (λ (n : ℕ). first_bad n 0 (λ k. not (has l (label_of (at (map f code) k))))) length_alike
          ∙ bad_same (length code) 0 (λ k. not (has l (label_of (at (map f code) k)))) (λ k. not (has l (label_of (at code k)))) (λ k _ _. ap (λ (xs : List ℕ). not (has l xs)) (label k)))
          (named_alike code)

  pub succs_alike : (k : ℕ) → successors (map f code) k ≡ successors code k
  unfolding successors
  succs_alike k =
      ap₂ (λ (g : ℕ → Lookup) (r : Bytecode). ascending (map (λ l. offset_of (g l)) (branch_dests r) ++ cond (falls_through r) (suc k ∷ []) [])) lookup_alike (at_alike k)
      ∙ ap₂ (λ (ls : List ℕ) (b : Bool). ascending (map (label_offset code) ls ++ cond b (suc k ∷ []) [])) (same.dests _) (same.falls _)

  -- ---- blocks

  starts_alike : starts (map f code) ≡ starts code
  unfolding starts
  starts_alike = fun_ext each
    where
      each : (k : ℕ) → starts (map f code) k ≡ starts code k
      each zero = refl
      each (suc k) =
          ap₂ (λ (b : Bool) (g : ℕ → Lookup). b || any (λ l. is_named (g l)) (label_of (at (map f code) (suc k)))) (ap is_branch (at_alike k) ∙ same.ends _) lookup_alike
          ∙ ap (λ (ls : List ℕ). is_branch (at code k) || any (λ l. is_named (lookup code l)) ls) (ap label_of (at_alike (suc k)) ∙ same.label _)

  lowers_alike : lowers (map f code) ≡ lowers code
  unfolding lowers
  lowers_alike = ap₂ (λ (n : ℕ) (t : ℕ → Bool). keep n 0 t) length_alike starts_alike

  pub lower_alike : (k : ℕ) → lower_of (map f code) k ≡ lower_of code k
  unfolding lower_of
  lower_alike zero = refl
  lower_alike (suc k) = ap₂ (λ (t : ℕ → Bool) (n : ℕ). elim (t (suc k)) as (λ _. ℕ) [ true ↦ suc k | false ↦ n ]) starts_alike (lower_alike k)

  pub upper_alike : (k : ℕ) → upper_of (map f code) k ≡ upper_of code k
  unfolding upper_of up_from
  upper_alike k = ap (λ (n : ℕ). up_from (map f code) (n - suc k) k) length_alike ∙ up (length code - suc k) k
    where
      up : (d k : ℕ) → up_from (map f code) d k ≡ up_from code d k
      up zero k = refl
      up (suc d) k = ap₂ (λ (t : ℕ → Bool) (n : ℕ). elim (t (suc k)) as (λ _. ℕ) [ true ↦ k | false ↦ n ]) starts_alike (up d (suc k))

  -- ---- keys

  -- the successors of the block at o
  nexts_alike : ◌≡◌ {A = ℕ → List ℕ} (λ o. successors (map f code) (upper_of (map f code) o)) (λ o. successors code (upper_of code o))
  nexts_alike = fun_ext (λ o. succs_alike (upper_of (map f code) o) ∙ ap (successors code) (upper_alike o))

  pub keyed_alike : keyed (map f code) ≡ keyed code
  unfolding keyed
  keyed_alike = ap₂ (λ (g : ℕ → List ℕ) (ls : List ℕ). firsts [] (gather (λ l. g l ++ (l ∷ [])) ls)) nexts_alike lowers_alike

  -- the keys of each key's successors
  pub nexts_of_alike : (ks : List ℕ) → nexts_of (map f code) ks ≡ nexts_of code ks
  unfolding nexts_of
  nexts_of_alike ks = ap (λ (g : ℕ → List ℕ). (key_of ks 0 ∷ []) ∷ [] ∷ map (λ o. map (key_of ks) (g o)) ks) nexts_alike
