-- A sheet with a heading that keeps to its layout, and any code, is accepted where the code meets checks 4, 18 and 5 to 8. Assumes nothing.
use Rattle.base.specs.declared.Refusal.TheVariants.{Block, Heading, Length, Record}
use Rattle.std.specs.Prelude.{◌≡◌, Bool, ◌||◌, ◌&&◌, get_or, drop, length, refl, true, cond, List, ℕ, zero, suc, ◌+◌, ◌-◌, ◌*◌, ◌/◌, ◌%◌, ◌^◌, ◌≤◌, ◌<◌, eqb}
use Rattle.std.proofs.Math.Bool.{or-true}
use Rattle.std.proofs.Common.{sym, ap, ap₂, ◌∙◌, subst, eq-eqb, le-leb, lt-ltb, le-ltb, length-take, length-drop, get_or-take, get_or-drop, arith}
use Rattle.stackless_bytecode.specs.declared.Bytecode.{Bytecode}
use Rattle.base.specs.Sizes.{set_bytes, refs_at, block_bytes, record_bytes, records_from, block_records, max_blocks, max_bytes}
use Rattle.base.specs.Refusals.{Accepted}
use Rattle.base.specs.RefusalLaws.{accepted_none, accepted_whole}
use Rattle.base.specs.Lists.{zeros}
use Rattle.base.specs.Bytes.{number, part, u16_at}
use Rattle.sheet.specs.Layout.{heading_rest, user_locals_of, parameters_of, block_at, check_of, count_of, locals_of, refs_of, record_blocks, record_start, decode, code_of, sheet_of}
use Rattle.stackless_bytecode.specs.Kinds.{at}
use Rattle.sheet.specs.Checks.{length_ok, block_ok, record_ok, place_ok, check_form, check_code, check_sheet}
use Rattle.base.specs.JoinLaws.{by_lt}
use Rattle.base.specs.SearchLaws.{all_none}
use Rattle.sheet_writer.specs.EncodeLaws.{record_again, sheet_length, first_block, later_block, record_part, zero_part, count_again, rest_again, code_again, heading_number, heading_check, later_number, later_check, later_zeros}
use Rattle.base.specs.PartLaws.{same_part}
use Rattle.sheet.specs.AcceptLaws.{and_both, HeadingLayout, heading_is}
use Rattle.sheet_writer.specs.BodyLaws.{both_accept, Body, code_accepted}

-- ---- the whole sheet

module _ (s : List ℕ) (old : HeadingLayout s) (code : List Bytecode) (body : Body (locals_of s) code) where
  abbrev sheet : List ℕ
  sheet = sheet_of (heading_rest s) code

  long : 2 * block_bytes ≤ length s
  long = unfold record_blocks in omega (arith, old.size, old.some)

  full : length (heading_rest s) ≡ block_bytes - 6
  full = length-take (block_bytes - 6) (drop 6 s) ∙ (omega (arith, length-drop 6 s, long))

  new_size : length sheet ≡ block_bytes * (1 + record_blocks (length code))
  new_size = sheet_length (heading_rest s) code full

  same_byte : (j : ℕ) → 6 ≤ j → j < block_bytes → get_or sheet j 0 ≡ get_or s j 0
  same_byte j l h =
      let i = j - 6 in
      let is : 6 + i ≡ j = omega arith in
      ap (λ (x : ℕ). get_or sheet x 0) (sym is) ∙ rest_again (heading_rest s) code full i (omega arith)
      ∙ get_or-take (block_bytes - 6) (drop 6 s) i 0 (omega arith) ∙ get_or-drop 6 s i 0 ∙ ap (λ (x : ℕ). get_or s x 0) is

  same_u16 : (j : ℕ) → 6 ≤ j → j < block_bytes - 1 → u16_at sheet j ≡ u16_at s j
  same_u16 j l h = ap₂ (λ (x y : ℕ). x + 256 * y) (same_byte j l (omega arith)) (same_byte (j + 1) (omega arith) (omega arith))

  pub same_bytes : (a c : ℕ) → 6 ≤ a → a + c ≤ block_bytes → part sheet a c ≡ part s a c
  same_bytes a c l h = same_part sheet s a c (omega (arith, new_size)) (omega (arith, long)) (λ i b. same_byte (a + i) (omega arith) (omega arith))

  pub same_locals : locals_of (sheet_of (heading_rest s) code) ≡ locals_of s
  unfolding locals_of
  same_locals = same_u16 6 (omega arith) (omega arith)

  pub same_users : user_locals_of (sheet_of (heading_rest s) code) ≡ user_locals_of s
  unfolding user_locals_of
  same_users = same_u16 8 (omega arith) (omega arith)

  pub same_params : parameters_of (sheet_of (heading_rest s) code) ≡ parameters_of s
  unfolding parameters_of
  same_params = same_u16 10 (omega arith) (omega arith)

  pub same_refs : refs_of (sheet_of (heading_rest s) code) ≡ refs_of s
  unfolding refs_of
  same_refs = ap number (same_bytes refs_at set_bytes (omega arith) (omega arith))

  pub same_count : count_of (sheet_of (heading_rest s) code) ≡ length code
  same_count = count_again (heading_rest s) code full (omega (arith, body.few))

  pub same_code : code_of (sheet_of (heading_rest s) code) ≡ code
  same_code = code_again (heading_rest s) code full (omega (arith, body.few)) body.encodes

  new_heading : HeadingLayout sheet
  new_heading = record {
    some = omega (arith, same_count, body.some);
    few = omega (arith, same_count, body.few);
    locals = omega (arith, same_locals, old.locals);
    users = omega (arith, same_users, same_locals, old.users);
    params = omega (arith, same_params, same_users, old.params);
    gap = ap zeros (same_bytes 12 4 (omega arith) (omega arith)) ∙ old.gap;
    refs = subst (λ (x : ℕ). refs_of sheet < 2 ^ x) (sym same_locals) (subst (λ (x : ℕ). x < 2 ^ locals_of s) (sym same_refs) old.refs);
    end = ap zeros (same_bytes (16 + set_bytes) (block_bytes - 16 - set_bytes) (omega arith) (omega arith)) ∙ old.end;
    size = new_size ∙ ap (λ (x : ℕ). block_bytes * (1 + record_blocks x)) (sym same_count);
  }

  few_blocks : record_blocks (length code) < max_blocks
  few_blocks = unfold record_blocks in omega (arith, body.few)

  some_blocks : 1 ≤ record_blocks (length code)
  some_blocks = unfold record_blocks in omega (arith, body.some)

  length_ok_lem : length_ok (length sheet) ≡ true
  unfolding length_ok
  length_ok_lem =
      and_both (and_both (eq-eqb (length sheet % block_bytes) 0 (omega (arith, new_size))) (le-leb (2 * block_bytes) (length sheet) (omega (arith, new_size, some_blocks)))) (le-leb (length sheet) max_bytes (omega (arith, new_size, few_blocks)))

  block_ok_lem : (b : ℕ) → b < 1 + record_blocks (length code) → block_ok (block_at sheet b) b ≡ true
  unfolding block_ok
  block_ok_lem zero h =
      let is = first_block (heading_rest s) code full in
      ap (λ (p : List ℕ). eqb (u16_at p 0) 0 && eqb (u16_at p 2) (check_of p) && (eqb 0 0 || zeros (part p 4 (records_from - 4)))) is
      ∙ and_both (and_both (eq-eqb _ 0 (heading_number (heading_rest s) code full)) (eq-eqb _ _ (heading_check (heading_rest s) code full))) refl
  block_ok_lem (suc b) h =
      let one : suc b ≡ 1 + b = omega arith in
      let is = ap (block_at sheet) one ∙ later_block (heading_rest s) code full b (omega arith) in
      ap (λ (p : List ℕ). eqb (u16_at p 0) (suc b) && eqb (u16_at p 2) (check_of p) && (eqb (suc b) 0 || zeros (part p 4 (records_from - 4)))) is
      ∙ and_both (and_both (eq-eqb _ (suc b) (later_number (heading_rest s) code full b (omega (arith, few_blocks)) ∙ sym one)) (eq-eqb _ _ (later_check (heading_rest s) code full b)))
      (ap (λ (x : Bool). eqb (suc b) 0 || x) (later_zeros (heading_rest s) code full b) ∙ or-true (eqb (suc b) 0))

  place_ok_lem : (k : ℕ) → k < block_records * record_blocks (length code) → place_ok sheet k ≡ true
  unfolding place_ok
  place_ok_lem k h =
      by_lt k (length code)
      (λ l. ap (λ (b : Bool). cond b (record_ok (decode (part sheet (record_start k) record_bytes))) (zeros (part sheet (record_start k) record_bytes))) (lt-ltb k (count_of sheet) (omega (arith, same_count)))
      ∙ ap record_ok (ap decode (record_part (heading_rest s) code full k l) ∙ record_again (at code k) (body.encodes k l)) ∙ body.fits k l)
      (λ l. ap (λ (b : Bool). cond b (record_ok (decode (part sheet (record_start k) record_bytes))) (zeros (part sheet (record_start k) record_bytes))) (le-ltb k (count_of sheet) (omega (arith, same_count)))
      ∙ zero_part (heading_rest s) code full k l h)

  -- it is accepted
  pub accepted_again : check_sheet (sheet_of (heading_rest s) code) ≡ Accepted
  unfolding check_sheet check_form
  accepted_again =
      both_accept (sym (both_accept (accepted_whole Length length_ok_lem)
      (both_accept (accepted_none Block (all_none (length sheet / block_bytes) 0 (λ b. block_ok (block_at sheet b) b) (λ j l h. block_ok_lem j (omega (arith, new_size)))))
      (both_accept (accepted_whole Heading (heading_is sheet new_heading))
      (sym (accepted_none Record (all_none (block_records * record_blocks (count_of sheet)) 0 (place_ok sheet) (λ j l h. place_ok_lem j (omega (arith, ap record_blocks same_count))))))))))
      (ap (check_code (locals_of sheet)) same_code ∙ code_accepted (locals_of sheet) code (subst (λ (x : ℕ). Body x code) (sym same_locals) body))
