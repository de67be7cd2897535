-- What checks 4, 18 and 5 to 8 want of code, and that the code of an accepted sheet has it. Assumes nothing.
use Rattle.base.specs.declared.Refusal.TheVariants.{FallsThrough, FlaggedStop, LabelRepeated, LabelUndefined, Local}
use Rattle.std.specs.Prelude.{◌≡◌, true, not, List, ℕ, ◌+◌, ◌-◌, ◌*◌, ◌≤◌, ◌<◌, get_or, drop, length, refl}
use Rattle.std.proofs.Common.{sym, ap, ◌∙◌, subst, arith, get_or-take, get_or-drop, length-take, length-drop}
use Rattle.std.proofs.Math.ListN.{get_or-eq_default}
use Rattle.stackless_bytecode.specs.declared.Bytecode.{Bytecode}
use Rattle.base.specs.Sizes.{max_instructions, record_bytes, list_places}
use Rattle.base.specs.Refusals.{Verdict, Accepted, ◌then◌}
use Rattle.base.specs.RefusalLaws.{then_goes, accepted_none, passed}
use Rattle.sheet.specs.Layout.{count_of, locals_of, record_start, decode, code_of, instruction_at, record_at}
use Rattle.stackless_bytecode.specs.Kinds.{at, stop_ok, falls_through, branch_dests}
use Rattle.stackless_bytecode.specs.Labels.{lookup, is_defined}
use Rattle.stackless_bytecode.specs.LookupLaws.{named_at}
use Rattle.stackless_bytecode.specs.Successors.{Unique}
use Rattle.sheet.specs.Checks.{record_ok, locals_ok, fresh, names_ok, check_form, check_code, check_sheet}
use Rattle.sheet.specs.Shaped.{Shaped, code_at, record_inside}
use Rattle.sheet.specs.FormLaws.{form_shaped}
use Rattle.base.specs.ListLaws.{get_d_in, in_get_d}
use Rattle.base.specs.JoinLaws.{by_lt}
use Rattle.stackless_bytecode.specs.Sound.{Sound}
use Rattle.base.specs.SearchLaws.{all_none, none_all}
use Rattle.sheet.specs.CheckLaws.{clear, Clear, code_length, code_sound}
use Rattle.sheet_writer.specs.EncodeLaws.{Encodes, Small, small_take, small_drop}
use Rattle.sheet.specs.AcceptLaws.{all_by, fresh_unique, unique_fresh, HeadingLayout, is_heading}
use Rattle.base.specs.Bytes.{Bytes}

-- two checks accept
pub both_accept : {v w : Verdict} → Accepted ≡ v → w ≡ Accepted → (v then w) ≡ Accepted
both_accept {w = w} e f = then_goes w (sym e) ∙ f

-- ---- what checks 4, 18 and 5 to 8 want of code

pub record Body (l : ℕ) (code : List Bytecode) : Type 0 where
  pub some : 1 ≤ length code
  pub few : length code ≤ max_instructions
  pub fits : (k : ℕ) → k < length code → record_ok (at code k) ≡ true
  pub encodes : (k : ℕ) → k < length code → Encodes (at code k)
  pub locals : (k : ℕ) → k < length code → locals_ok l (at code k) ≡ true
  pub unique : Unique code
  pub sound : Sound code

names_ok_lem : (code : List Bytecode) → Sound code → (k : ℕ) → k < length code → names_ok code (at code k) ≡ true
unfolding names_ok
names_ok_lem code sound k h =
    all_by (λ l. is_defined (lookup code l)) (branch_dests (at code k)) (λ l i. ap is_defined (named_at code k l h i (sound.named k l h i)))

-- checks 18 and 5 to 8 accept it
pub code_accepted : (l : ℕ) (code : List Bytecode) → Body l code → check_code l code ≡ Accepted
unfolding check_code
code_accepted l code b =
    both_accept (accepted_none FlaggedStop (all_none (length code) 0 (λ k. stop_ok (at code k)) (λ j i h. b.sound.stops j (omega arith))))
    (both_accept (accepted_none Local (all_none (length code) 0 (λ k. locals_ok l (at code k)) (λ j i h. b.locals j (omega arith))))
    (both_accept (accepted_none LabelRepeated (all_none (length code) 0 (fresh code) (λ j l h. unique_fresh code b.unique j (omega arith))))
    (both_accept (accepted_none LabelUndefined (all_none (length code) 0 (λ k. names_ok code (at code k)) (λ j l h. names_ok_lem code b.sound j (omega arith))))
    (sym (accepted_none FallsThrough (all_none 1 (length code - 1) (λ k. not (falls_through (at code k))) (λ j l h. let s : j ≡ length code - 1 = omega arith in ap not (ap (λ (x : ℕ). falls_through (at code x)) s ∙ b.sound.closed))))))))

-- ---- the code of an accepted sheet

pub small_by : (xs : List ℕ) → ((i : ℕ) → i < length xs → get_or xs i 0 < 256) → Small xs
small_by xs h = record { each = λ x i. let p = in_get_d xs x 0 i in subst (λ (y : ℕ). y < 256) p.2 (h p.0 p.1) }

pub by_small : (xs : List ℕ) → Small xs → Bytes xs
by_small xs s = record { each = λ i. by_lt i (length xs) (λ h. s.each (get_or xs i 0) (get_d_in xs i 0 h)) (λ h. omega (arith, get_or-eq_default xs 0 {n = i} h)) }

module _ (s : List ℕ) (bytes : Bytes s) (e : check_sheet s ≡ Accepted) where
  checks : Clear s
  checks = clear s e

  pub heading : HeadingLayout s
  heading = is_heading s checks.three

  pub shaped : Shaped s (count_of s)
  unfolding check_sheet
  shaped = form_shaped s (count_of s) refl (passed (check_form s) (check_code (locals_of s) (code_of s)) e).first

  pub part_length : (k : ℕ) → k < count_of s → length (record_at s k) ≡ record_bytes
  part_length k h = length-take record_bytes (drop (record_start k) s) ∙ (omega (arith, length-drop (record_start k) s, record_inside shaped k h))

  part_byte : (k i : ℕ) → i < record_bytes → get_or (record_at s k) i 0 < 256
  part_byte k i h = subst (λ (x : ℕ). x < 256) (sym (get_or-take record_bytes (drop (record_start k) s) i 0 h ∙ get_or-drop (record_start k) s i 0)) (bytes.each (record_start k + i))

  record_encodes : (k : ℕ) → k < count_of s → Encodes (instruction_at s k)
  unfolding instruction_at decode
  record_encodes k h =
      let p = record_at s k in
      let small : Small p = small_by p (λ i g. part_byte k i (omega (arith, part_length k h))) in
      record {
        kind = part_byte k 0 (omega arith);
        sub = part_byte k 1 (omega arith);
        ndst = part_byte k 8 (omega arith);
        nsrc = part_byte k 9 (omega arith);
        flag = part_byte k 10 (omega arith);
        abort = part_byte k 11 (omega arith);
        dsts_small = small_take list_places (drop 12 p) (small_drop 12 p small);
        srcs_small = small_take list_places (drop (12 + list_places) p) (small_drop (12 + list_places) p small);
        attr = omega (arith, part_byte k 2 (omega arith), part_byte k 3 (omega arith));
        one = omega (arith, part_byte k 4 (omega arith), part_byte k 5 (omega arith));
        two = omega (arith, part_byte k 6 (omega arith), part_byte k 7 (omega arith));
        payload = let at = 12 + 2 * list_places in omega (arith, part_byte k at (omega arith), part_byte k (at + 1) (omega arith), part_byte k (at + 2) (omega arith), part_byte k (at + 3) (omega arith));
        dsts = length-take list_places (drop 12 p) ∙ (omega (arith, length-drop 12 p, part_length k h));
        srcs = length-take list_places (drop (12 + list_places) p) ∙ (omega (arith, length-drop (12 + list_places) p, part_length k h));
      }

  pub accepted_body : Body (locals_of s) (code_of s)
  accepted_body = record {
    some = omega (arith, code_length s, heading.some);
    few = omega (arith, code_length s, heading.few);
    fits = λ k h. let l : k < count_of s = omega (arith, code_length s) in ap record_ok (code_at shaped k l) ∙ shaped.each k l;
    encodes = λ k h. let l : k < count_of s = omega (arith, code_length s) in subst Encodes (sym (code_at shaped k l)) (record_encodes k l);
    locals = λ k h. none_all (length (code_of s)) 0 (λ j. locals_ok (locals_of s) (at (code_of s) j)) checks.five k (omega arith) (omega arith);
    unique = fresh_unique (code_of s) (λ k h. none_all (length (code_of s)) 0 (fresh (code_of s)) checks.six k (omega arith) (omega arith));
    sound = code_sound s e;
  }
