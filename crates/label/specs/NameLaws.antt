-- The labels of an instruction and of the code, case by case and one instruction more; and a label by the search for its Label. Assumes nothing.
use Rattle.std.specs.Prelude.{◌≡◌, Bool, true, false, cond, not, ◌||◌, ℕ, ◌+◌, ◌≤◌, ◌<◌, eqb, get_or, length, drop, List, ◌∷◌, Some, None}
use Rattle.std.proofs.Common.{sym, ap, ◌∙◌, add-one, arith, ne_eqb, drop_of_length-le, drop-cons}
use Rattle.std.proofs.Math.Bool.{or-false}
use Rattle.std.proofs.lemmas.Bool.{not-false}
use Rattle.base.specs.Lists.{gather, has, first_bad}
use Rattle.base.specs.SearchLaws.{bad_lt, bad_fails}
use Rattle.base.specs.GrowLaws.{has_append}
use Rattle.base.specs.ListLaws.{has_in}
use Rattle.stackless_bytecode.specs.declared.Bytecode.{Bytecode}
use Rattle.stackless_bytecode.specs.declared.Lookup.TheVariants.{Named, Unnamed, Undefined}
use Rattle.stackless_bytecode.specs.Kinds.{Label, nop, at, branch_dests, label_of}
use Rattle.stackless_bytecode.specs.KindLaws.{by_dests, one_label, other_label, label_one}
use Rattle.stackless_bytecode.specs.Slots.{no_label}
use Rattle.stackless_bytecode.specs.Labels.{lookup}
use Rattle.stackless_bytecode.specs.LookupLaws.{lookup_found, lookup_missing}
use Rattle.sheet.specs.Layout.{code_of}
use Rattle.sheet.specs.Shaped.{Shaped, code_size}
use Rattle.sheet.specs.LabelLaws.{code_below}

-- ---- one instruction

-- a Label has its number, and another instruction has none
pub label_has : (r : Bytecode) (l : ℕ) → eqb r.kind Label ≡ true → eqb l r.one ≡ has l (label_of r)
label_has r l e = sym (ap (has l) (one_label r e) ∙ or-false (eqb l r.one))

pub other_has : (r : Bytecode) (l : ℕ) → eqb r.kind Label ≡ false → false ≡ has l (label_of r)
other_has r l e = sym (ap (has l) (other_label r e))

-- the labels that an instruction names are those of its two slots
pub names_has : (r : Bytecode) (l : ℕ) → l < no_label → eqb l (get_or (branch_dests r) 0 no_label) || eqb l (get_or (branch_dests r) 1 no_label) ≡ has l (branch_dests r)
names_has r l h =
    let none : eqb l no_label ≡ false = ne_eqb l no_label (λ e. omega arith) in
    by_dests (λ xs. eqb l (get_or xs 0 no_label) || eqb l (get_or xs 1 no_label) ≡ has l xs) r
    (ap (λ (b : Bool). eqb l r.one || b) (sym (or-false (eqb l r.two)))) (ap (λ (b : Bool). eqb l r.one || b) none) (ap (λ (b : Bool). b || b) none)

-- ---- the code from offset k on

names_from : (code : List Bytecode) (l k : ℕ) → k < length code → has l (gather branch_dests (drop k code)) ≡ has l (branch_dests (at code k)) || has l (gather branch_dests (drop (k + 1) code))
names_from code l k h =
    ap (λ (rs : List Bytecode). has l (gather branch_dests rs)) (drop-cons code k nop h ∙ ap (λ (x : ℕ). at code k ∷ drop x code) (sym (add-one k)))
    ∙ has_append l (branch_dests (at code k)) (gather branch_dests (drop (k + 1) code))

module _ (code : List Bytecode) (l k : ℕ) where
  -- instruction k names the label; it does not; and there is none
  pub names_here : k < length code → has l (branch_dests (at code k)) ≡ true → has l (gather branch_dests (drop k code)) ≡ true
  names_here h e = names_from code l k h ∙ ap (λ (b : Bool). b || has l (gather branch_dests (drop (k + 1) code))) e

  pub names_on : k < length code → has l (branch_dests (at code k)) ≡ false → has l (gather branch_dests (drop k code)) ≡ has l (gather branch_dests (drop (k + 1) code))
  names_on h e = names_from code l k h ∙ ap (λ (b : Bool). b || has l (gather branch_dests (drop (k + 1) code))) e

  pub names_end : length code ≤ k → has l (gather branch_dests (drop k code)) ≡ false
  names_end h = ap (λ (rs : List Bytecode). has l (gather branch_dests rs)) (drop_of_length-le code h)

-- ---- a label of a sheet of n instructions, by the search for its Label

module _ {s : List ℕ} {n : ℕ} (shaped : Shaped s n) (l : ℕ) where
  abbrev others : ℕ → Bool
  others k = not (has l (label_of (at (code_of s) k)))

  whole : first_bad (length (code_of s)) 0 others ≡ first_bad n 0 others
  whole = ap (λ (m : ℕ). first_bad m 0 others) (code_size shaped)

  -- there is none
  pub look_missing : None ≡ first_bad n 0 (λ k. not (has l (label_of (at (code_of s) k)))) → Undefined ≡ lookup (code_of s) l
  look_missing e = sym (lookup_missing (code_of s) l (whole ∙ sym e))

  module _ (o : ℕ) (e : Some o ≡ first_bad n 0 (λ k. not (has l (label_of (at (code_of s) k))))) where
    -- it is at o: then the number is a label's
    pub look_low : ((i : ℕ) → get_or s i 0 < 256) → l < no_label
    look_low bytes =
        let h : o < n = omega (arith, bad_lt n 0 others o (sym e)) in
        omega (arith, label_one (at (code_of s) o) l (has_in l (label_of (at (code_of s) o)) (not-false _ (bad_fails n 0 others o (sym e)))), (code_below shaped bytes o h).one)

    -- and b says whether some instruction names it
    pub look_found : (b : Bool) → b ≡ has l (gather branch_dests (code_of s)) → cond b (Named o) (Unnamed o) ≡ lookup (code_of s) l
    look_found b q = sym (lookup_found (code_of s) l o (whole ∙ sym e) ∙ ap (λ (x : Bool). cond x (Named o) (Unnamed o)) (sym q))
