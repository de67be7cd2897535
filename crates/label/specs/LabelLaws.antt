-- What both searches find of a label; what the call label replies, and that it means what it is to mean. Assumes nothing.
use Rattle.std.specs.Prelude.{◌≡◌, refl, Bool, true, false, cond, not, ℕ, ◌≤◌, ◌<◌, length, List, [], Option, Some, None, Ok, Err}
use Rattle.std.proofs.Common.{sym, ◌∙◌, subst, true≢false, arith, eq-eqb, ne_eqb, ap}
use mathlib.Core.List.{Memᴰ}
use Rattle.std.proofs.lemmas.Bool.{not-false}
use Rattle.std.specs.Option.{is_some}
use Rattle.base.specs.declared.Refusal.{Refusal}
use Rattle.base.specs.Sizes.{max_instructions}
use Rattle.base.specs.Lists.{gather, has}
use Rattle.base.specs.SearchLaws.{none_all, bad_lt, bad_fails}
use Rattle.base.specs.ListLaws.{by_test, has_in, in_has, gather_in, in_gather, get_d_in, in_get_d}
use Rattle.base.specs.Refusals.{Accepted, Done, answer_of}
use Rattle.base.specs.ReplyLaws.{reply_refused, reply_done}
use Rattle.stackless_bytecode.specs.declared.Bytecode.{Bytecode}
use Rattle.stackless_bytecode.specs.declared.Lookup.{Lookup}
use Rattle.stackless_bytecode.specs.declared.Lookup.TheVariants.{Named, Unnamed, Undefined}
use Rattle.stackless_bytecode.specs.Kinds.{nop, at, branch_dests, label_of}
use Rattle.stackless_bytecode.specs.Labels.{lookup, way_of, offset_of, is_defined, label_offset}
use Rattle.stackless_bytecode.specs.LookupLaws.{lookup_found, lookup_missing, is_defined_lem, defined, offset_is, named_by, named_at}
use Rattle.sheet.specs.Layout.{code_of}
use Rattle.sheet.specs.Checks.{check_sheet}
use Rattle.sheet.specs.CheckLaws.{code_sound}
use Rattle.sheet.specs.ValidLaws.{accepted_valid}
use Rattle.label.specs.Searches.{first_label, first_name}
use Rattle.label.specs.LabelCall.{label_value, label_reply, way_in, offset_in, LabelMeaning}

-- ---- both searches

-- some instruction names the label where one is found
names_found : (code : List Bytecode) (l : ℕ) (x : Option ℕ) → first_name code l ≡ x → has l (gather branch_dests code) ≡ is_some x
unfolding first_name
names_found code l None e =
    by_test (λ b. b ≡ false) (has l (gather branch_dests code))
    (λ t. absurd (let r = in_gather branch_dests code l (has_in l (gather branch_dests code) t) in
    let p = in_get_d code r.0 nop r.1 in
    let here : has l (branch_dests (at code p.0)) ≡ true = in_has l (branch_dests (at code p.0)) (subst (λ (x : Bytecode). Memᴰ l (branch_dests x)) (sym p.2) r.2) in
    true≢false (sym (none_all (length code) 0 _ e p.0 (omega arith) (omega (arith, p.1))) ∙ ap not here)))
    (λ t. refl)
names_found code l (Some k) e =
    in_has l (gather branch_dests code)
    (gather_in branch_dests code (get_d_in code k nop (omega (arith, bad_lt (length code) 0 _ k e)))
    (has_in l (branch_dests (at code k)) (not-false (has l (branch_dests (at code k))) (bad_fails (length code) 0 _ k e))))

-- what a label is, by its Label and by an instruction that names it
abbrev pub looked : Option ℕ → Option ℕ → Lookup
looked None named = Undefined
looked (Some o) None = Unnamed o
looked (Some o) (Some k) = Named o

pub lookup_searched : (code : List Bytecode) (l : ℕ) → lookup code l ≡ looked (first_label code l) (first_name code l)
unfolding first_label
lookup_searched code l = by (first_label code l) refl (first_name code l) refl
  where
    by : (x : Option ℕ) → first_label code l ≡ x → (y : Option ℕ) → first_name code l ≡ y → lookup code l ≡ looked x y
    by None e y q = lookup_missing code l e
    by (Some o) e None q = lookup_found code l o e ∙ ap (λ (b : Bool). cond b (Named o) (Unnamed o)) (names_found code l None q)
    by (Some o) e (Some k) q = lookup_found code l o e ∙ ap (λ (b : Bool). cond b (Named o) (Unnamed o)) (names_found code l (Some k) q)

-- ---- the number and its two parts

way_is : (x : Lookup) → offset_of x < 65536 → way_in (label_value x) ≡ way_of x
unfolding label_value
way_is x h = omega arith

offset_of_lem : (x : Lookup) → offset_of x < 65536 → offset_in (label_value x) ≡ offset_of x
unfolding label_value
offset_of_lem x h = omega arith

three_ways : (x : Lookup) → (1 ≤ way_of x) × (way_of x ≤ 3)
three_ways (Named o) = (omega arith, omega arith)
three_ways (Unnamed o) = (omega arith, omega arith)
three_ways Undefined = (omega arith, omega arith)

defined_way : (x : Lookup) → is_defined x ≡ true → way_of x < 3
defined_way (Named o) e = omega arith
defined_way (Unnamed o) e = omega arith
defined_way Undefined e = absurd (true≢false (sym e))

undefined_offset : (x : Lookup) → is_defined x ≡ false → offset_of x ≡ 0
undefined_offset (Named o) e = absurd (true≢false e)
undefined_offset (Unnamed o) e = absurd (true≢false e)
undefined_offset Undefined e = refl

-- ---- the meaning, in an accepted sheet

module _ (s : List ℕ) (accepted : check_sheet s ≡ Accepted) (l : ℕ) where
  few : length (code_of s) ≤ max_instructions
  few = let v = accepted_valid s accepted in omega (arith, v.count, v.few)

  -- every answer's offset is one of the code, or 0
  pub offset_few : offset_of (lookup (code_of s) l) ≤ max_instructions
  offset_few =
      by_test (λ b. is_defined (lookup (code_of s) l) ≡ b → offset_of (lookup (code_of s) l) ≤ max_instructions) (is_defined (lookup (code_of s) l))
      (λ e q. omega (arith, (defined (code_of s) l e).inside, few)) (λ e q. omega (arith, undefined_offset (lookup (code_of s) l) e)) refl

  is_way : way_in (label_value (lookup (code_of s) l)) ≡ way_of (lookup (code_of s) l)
  is_way = way_is (lookup (code_of s) l) (omega (arith, offset_few))

  is_offset : offset_in (label_value (lookup (code_of s) l)) ≡ label_offset (code_of s) l
  is_offset = offset_of_lem (lookup (code_of s) l) (omega (arith, offset_few))

  pub label_meaning : LabelMeaning (code_of s) l (label_value (lookup (code_of s) l))
  label_meaning = record {
    ways = let w = three_ways (lookup (code_of s) l) in (omega (arith, is_way, w.0), omega (arith, is_way, w.1));
    named = λ e. named_by (code_of s) l (eq-eqb (way_of (lookup (code_of s) l)) 1 (sym is_way ∙ e));
    names = λ k h i. is_way ∙ ap way_of (named_at (code_of s) k l h i ((code_sound s accepted).named k l h i));
    label = λ h. let d = defined (code_of s) l (ap not (ne_eqb (way_of (lookup (code_of s) l)) 3 (λ e. omega (arith, is_way)))) in
        (omega (arith, is_offset, d.inside), subst (λ (o : ℕ). Memᴰ l (label_of (at (code_of s) o))) (sym is_offset) d.label);
    labels = λ o h i. let t = is_defined_lem (code_of s) l ∙ in_has l (gather label_of (code_of s)) (gather_in label_of (code_of s) (get_d_in (code_of s) o nop h) i) in
        (omega (arith, is_way, defined_way (lookup (code_of s) l) t), is_offset ∙ offset_is (code_of s) (accepted_valid s accepted).once o l h i);
  }

-- ---- the reply

pub label_refused : (s : List ℕ) (l : ℕ) (e : Refusal) → check_sheet s ≡ Err e → answer_of (label_reply s l) ≡ Err e
unfolding label_reply
label_refused s l e q = ap answer_of (reply_refused (Done (label_value (lookup (code_of s) l)) []) q)

pub label_done : (s : List ℕ) (l : ℕ) → check_sheet s ≡ Accepted → answer_of (label_reply s l) ≡ Ok (label_value (lookup (code_of s) l))
unfolding label_reply
label_done s l e = ap answer_of (reply_done (Done (label_value (lookup (code_of s) l)) []) e)
