-- What the answers of `lookup` say: which label is defined, where, and named by what. Assumes nothing.
use Rattle.std.specs.Prelude.{◌≡◌, refl, Bool, true, false, cond, not, ℕ, ◌<◌, length, List, Option, None, Some}
use Rattle.std.proofs.Common.{sym, ◌∙◌, subst, true≢false, arith, ap}
use mathlib.Core.List.{Memᴰ}
use Rattle.std.proofs.lemmas.Bool.{not-false}
use Rattle.base.specs.Lists.{gather, has, first_bad}
use Rattle.base.specs.ListLaws.{by_test, has_in, in_has, gather_in, in_gather, get_d_in, in_get_d}
use Rattle.base.specs.SearchLaws.{none_all, bad_lt, bad_fails}
use Rattle.stackless_bytecode.specs.declared.Bytecode.{Bytecode}
use Rattle.stackless_bytecode.specs.declared.Lookup.{Lookup}
use Rattle.stackless_bytecode.specs.declared.Lookup.TheVariants.{Named, Unnamed, Undefined}
use Rattle.stackless_bytecode.specs.Kinds.{nop, at, branch_dests, label_of}
use Rattle.stackless_bytecode.specs.Labels.{lookup, offset_of, is_named, is_defined, label_offset}
use Rattle.stackless_bytecode.specs.Successors.{Unique}
use Rattle.stackless_bytecode.specs.Sound.{Defined}

-- ---- the search for its Label

module _ (code : List Bytecode) (l : ℕ) where
  abbrev answer : Option ℕ → Lookup
  answer x = elim x [ None ↦ Undefined | Some o ↦ cond (has l (gather branch_dests code)) (Named o) (Unnamed o) ]

  -- no instruction is its Label
  abbrev others : ℕ → Bool
  others k = not (has l (label_of (at code k)))

  pub lookup_found : (o : ℕ) → first_bad (length code) 0 (λ k. not (has l (label_of (at code k)))) ≡ Some o → lookup code l ≡ cond (has l (gather branch_dests code)) (Named o) (Unnamed o)
  unfolding lookup
  lookup_found o e = ap answer e

  pub lookup_missing : first_bad (length code) 0 (λ k. not (has l (label_of (at code k)))) ≡ None → lookup code l ≡ Undefined
  unfolding lookup
  lookup_missing e = ap answer e

  pub data Looked : Type 0 where
    found : (o : ℕ) → o < length code → Memᴰ l (label_of (at code o)) → lookup code l ≡ cond (has l (gather branch_dests code)) (Named o) (Unnamed o) → Looked
    missing : ((k : ℕ) → k < length code → Memᴰ l (label_of (at code k)) → ⊥) → lookup code l ≡ Undefined → Looked

  pub looked : Looked
  looked = by (first_bad (length code) 0 others) refl
    where
      by : (x : Option ℕ) → first_bad (length code) 0 others ≡ x → Looked
      by None e =
          missing (λ k h i. true≢false (sym (none_all (length code) 0 others e k (omega arith) (omega arith)) ∙ ap not (in_has l (label_of (at code k)) i))) (lookup_missing e)
      by (Some o) e =
          found o (omega (arith, bad_lt (length code) 0 others o e))
          (has_in l (label_of (at code o)) (not-false (has l (label_of (at code o))) (bad_fails (length code) 0 others o e))) (lookup_found o e)

-- either way it has the offset
found_offset : (b : Bool) (o : ℕ) → offset_of (cond b (Named o) (Unnamed o)) ≡ o
found_offset true o = refl
found_offset false o = refl

found_defined : (b : Bool) (o : ℕ) → is_defined (cond b (Named o) (Unnamed o)) ≡ true
found_defined true o = refl
found_defined false o = refl

found_named : (b : Bool) (o : ℕ) → is_named (cond b (Named o) (Unnamed o)) ≡ b
found_named true o = refl
found_named false o = refl

pub offset_first : (code : List Bytecode) (l o : ℕ) → first_bad (length code) 0 (λ k. not (has l (label_of (at code k)))) ≡ Some o → label_offset code l ≡ o
offset_first code l o e = ap offset_of (lookup_found code l o e) ∙ found_offset (has l (gather branch_dests code)) o

-- ---- which label is defined, and where

-- the number of a Label is
pub label_defined : (code : List Bytecode) (o l : ℕ) → o < length code → Memᴰ l (label_of (at code o)) → Defined code l
label_defined code o l h i = go (looked code l)
  where
    go : Looked code l → Defined code l
    go (found p inside label e) =
        let q : label_offset code l ≡ p = ap offset_of e ∙ found_offset (has l (gather branch_dests code)) p in
        record { inside = omega arith; label = subst (λ (x : ℕ). Memᴰ l (label_of (at code x))) (sym q) label }
    go (missing never e) = absurd (never o h i)

-- nothing else is
pub is_defined_lem : (code : List Bytecode) (l : ℕ) → is_defined (lookup code l) ≡ has l (gather label_of code)
is_defined_lem code l = go (looked code l)
  where
    go : Looked code l → is_defined (lookup code l) ≡ has l (gather label_of code)
    go (found o h i e) =
        ap is_defined e ∙ found_defined (has l (gather branch_dests code)) o
        ∙ sym (in_has l (gather label_of code) (gather_in label_of code (get_d_in code o nop h) i))
    go (missing never e) =
        ap is_defined e
        ∙ by_test (λ b. has l (gather label_of code) ≡ b → false ≡ b) (has l (gather label_of code))
        (λ t q. absurd (let r = in_gather label_of code l (has_in l (gather label_of code) t) in
        let p = in_get_d code r.0 nop r.1 in
        never p.0 p.1 (subst (λ (x : Bytecode). Memᴰ l (label_of x)) (sym p.2) r.2))) (λ t q. refl) refl

pub defined : (code : List Bytecode) (l : ℕ) → is_defined (lookup code l) ≡ true → Defined code l
defined code l e =
    let r = in_gather label_of code l (has_in l (gather label_of code) (sym (is_defined_lem code l) ∙ e)) in
    let p = in_get_d code r.0 nop r.1 in
    label_defined code p.0 l p.1 (subst (λ (x : Bytecode). Memᴰ l (label_of x)) (sym p.2) r.2)

-- a Label that repeats no number is at its number's offset
pub offset_is : (code : List Bytecode) → Unique code → (o l : ℕ) → o < length code → Memᴰ l (label_of (at code o)) → label_offset code l ≡ o
offset_is code u o l h i = let d = label_defined code o l h i in u.one (label_offset code l) o l d.inside h d.label i

-- ---- which is named

-- some instruction names it
pub named_by : (code : List Bytecode) (l : ℕ) → is_named (lookup code l) ≡ true → (k : ℕ) × (k < length code) × Memᴰ l (branch_dests (at code k))
named_by code l t = go (looked code l)
  where
    go : Looked code l → (k : ℕ) × (k < length code) × Memᴰ l (branch_dests (at code k))
    go (found o h i e) =
        let r = in_gather branch_dests code l (has_in l (gather branch_dests code) (sym (found_named (has l (gather branch_dests code)) o) ∙ sym (ap is_named e) ∙ t)) in
        let p = in_get_d code r.0 nop r.1 in
        (p.0, p.1, subst (λ (x : Bytecode). Memᴰ l (branch_dests x)) (sym p.2) r.2)
    go (missing never e) = absurd (true≢false (sym t ∙ ap is_named e))

-- whatever an instruction names is named, where it is defined
pub named_at : (code : List Bytecode) (k l : ℕ) → k < length code → Memᴰ l (branch_dests (at code k)) → Defined code l → lookup code l ≡ Named (label_offset code l)
named_at code k l h i d = go (looked code l)
  where
    there : has l (gather branch_dests code) ≡ true
    there = in_has l (gather branch_dests code) (gather_in branch_dests code (get_d_in code k nop h) i)

    go : Looked code l → lookup code l ≡ Named (label_offset code l)
    go (found o inside label e) =
        let is : lookup code l ≡ Named o = e ∙ ap (λ (b : Bool). cond b (Named o) (Unnamed o)) there in is ∙ sym (ap (λ (x : Lookup). Named (offset_of x)) is)
    go (missing never e) = absurd (never (label_offset code l) d.inside d.label)
