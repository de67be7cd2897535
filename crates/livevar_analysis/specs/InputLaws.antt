-- What an accepted sheet gives the functions of live: each instruction is in range, and the code is one that the engine takes. Assumes nothing.
use Rattle.std.specs.Prelude.{◌≡◌, refl, Bool, true, ◌&&◌, ℕ, zero, suc, ◌+◌, ◌*◌, ◌≤◌, ◌<◌, leb, get_or, length, take, cond, List, [], ◌∷◌, ◌++◌}
use Rattle.std.proofs.Common.{sym, ap, ◌∙◌, subst, zero-add, arith, lt-ltb, leb-true, length-take, get_or-take}
use mathlib.Core.List.Memᴰ
use mathlib.Core.List.{Memᴰ}
use Rattle.std.proofs.Math.ListN.{get_or-eq_default}
use Rattle.base.specs.Sizes.{max_locals, max_instructions, list_places, record_bytes, block_records}
use Rattle.base.specs.Bytes.{u16_at}
use Rattle.base.specs.Refusals.{Accepted}
use Rattle.base.specs.Lists.{all, zeros}
use Rattle.base.specs.ListLaws.{and-true, get_d_in, get_d_tab}
use Rattle.base.specs.JoinLaws.{by_lt}
use Rattle.base.specs.SearchLaws.{none_all}
use Rattle.stackless_bytecode.specs.declared.Bytecode.{Bytecode}
use Rattle.stackless_bytecode.specs.Kinds.{at, nop, dsts_of, srcs_of, is_flagged}
use Rattle.sheet.specs.declared.Shape.{Shape}
use Rattle.sheet.specs.Layout.{count_of, locals_of, record_blocks, record_start, record_at, decode, code_of, instruction_at}
use Rattle.sheet.specs.Checks.{shapes, no_shape, shape_of, record_ok, place_ok, check_sheet}
use Rattle.sheet.specs.CheckLaws.{clear, code_length, code_sound, locals_lt}
use Rattle.sheet.specs.AcceptedLaws.{Fits, is_fits}
use Rattle.sheet.specs.Valid.{Valid}
use Rattle.sheet.specs.ValidLaws.{accepted_valid}
use Rattle.livevar_analysis.specs.Rules.{ListedLocals, InRange}
use Rattle.livevar_analysis.specs.Engine.{Analyzable}

-- ---- the table of kinds

-- the row has no more places than a list
short : Shape → Bool
short f = leb f.dhigh list_places && leb f.shigh list_places

all_short : (fs : List Shape) (k : ℕ) → all short fs ≡ true → short (get_or fs k no_shape) ≡ true
unfolding short
all_short [] k e = refl
all_short (f ∷ fs) zero e = (and-true (short f) (all short fs) e).0
all_short (f ∷ fs) (suc k) e = all_short fs k (and-true (short f) (all short fs) e).1

few_places : (k : ℕ) → ((shape_of k).dhigh ≤ list_places) × ((shape_of k).shigh ≤ list_places)
unfolding short
few_places k =
    let both = and-true (leb (shape_of k).dhigh list_places) (leb (shape_of k).shigh list_places) (all_short shapes k refl) in
    (leb-true _ list_places both.0, leb-true _ list_places both.1)

below_by : (n : ℕ) (list : List ℕ) → n ≤ list_places → ((x : ℕ) → Memᴰ x (take n list) → x < max_locals) → ListedLocals n list
below_by n list l h = record {
  few = l;
  each = λ i g. by_lt i (length list) (λ q. h (get_or list i 0) (subst (λ (x : ℕ). Memᴰ x (take n list)) (get_or-take n list i 0 g) (get_d_in (take n list) i 0 (omega (arith, length-take n list)))))
      (λ q. omega (arith, get_or-eq_default list 0 {n = i} q));
}

module _ (s : List ℕ) (e : check_sheet s ≡ Accepted) where
  pub code_at : (k : ℕ) → k < count_of s → at (code_of s) k ≡ instruction_at s k
  unfolding code_of
  code_at k h = get_d_tab (count_of s) 0 k (instruction_at s) nop h ∙ ap (instruction_at s) (zero-add k)

  record_fits : (k : ℕ) → k < count_of s → record_ok (instruction_at s k) ≡ true
  unfolding instruction_at place_ok
  record_fits k h =
      sym (ap (λ (b : Bool). cond b (record_ok (decode (record_at s k))) (zeros (record_at s k))) (lt-ltb k (count_of s) h)) ∙ none_all (block_records * record_blocks (count_of s)) 0 (place_ok s) (clear s e).four k (omega arith) (unfold record_blocks in omega arith)

  fits : (k : ℕ) → k < count_of s → Fits (shape_of (instruction_at s k).kind) (instruction_at s k)
  fits k h = is_fits _ (instruction_at s k) (unfold record_ok in record_fits k h)

  valid : Valid s
  valid = accepted_valid s e

  -- a listed local is one of the sheet
  listed : (k x : ℕ) → k < count_of s → Memᴰ x (dsts_of (instruction_at s k) ++ srcs_of (instruction_at s k)) → x < max_locals
  listed k x h i =
      omega (arith, valid.locals, valid.listed k x h (subst (λ (r : Bytecode). Memᴰ x (dsts_of r ++ srcs_of r)) (sym (code_at k h)) i))

  abort_lt : (k : ℕ) → k < count_of s → is_flagged (instruction_at s k) ≡ true → (instruction_at s k).abort < locals_of s
  abort_lt k h g =
      subst (λ (r : Bytecode). r.abort < locals_of s) (code_at k h) (valid.abort k h (ap is_flagged (code_at k h) ∙ g))

  pub in_range : (k : ℕ) → k < count_of s → InRange (instruction_at s k)
  unfolding dsts_of srcs_of
  in_range k h =
      let r = instruction_at s k in
      let f = fits k h in
      let few = few_places r.kind in
      record {
        dsts = below_by r.ndst r.dsts (omega (arith, f.dhigh, few.0)) (λ x i. listed k x h (Memᴰ.append_left (srcs_of r) i));
        srcs = below_by r.nsrc r.srcs (omega (arith, f.shigh, few.1)) (λ x i. listed k x h (Memᴰ.append_right (dsts_of r) i));
        abort = λ g. omega (arith, valid.locals, abort_lt k h g);
        assign = λ g. omega (arith, f.dlow, ap (λ (x : ℕ). (shape_of x).dlow) g);
        load = λ g. omega (arith, f.dlow, ap (λ (x : ℕ). (shape_of x).dlow) g);
      }

  -- its record lies in the sheet
  pub record_inside : (k : ℕ) → k < count_of s → (record_start k + record_bytes ≤ length s) × (k < 2 * max_instructions)
  unfolding record_blocks
  record_inside k h = (omega (arith, valid.size), omega (arith, valid.few))

  -- the code is what the engine asks for
  pub analyzable : Analyzable (code_of s) (locals_of s)
  analyzable = record {
    sound = code_sound s e;
    few = omega (arith, code_length s, valid.few);
    narrow = valid.locals;
    sources = locals_lt s e;
  }

-- ---- the count that the code reads

pub count_of_lem : (s : List ℕ) (n : ℕ) → n ≡ u16_at s 4 → n ≡ length (code_of s)
unfolding count_of
count_of_lem s n e = e ∙ sym (code_length s)

pub few_count : (s : List ℕ) (n : ℕ) → check_sheet s ≡ Accepted → n ≡ length (code_of s) → n ≤ max_instructions
few_count s n e q = omega (arith, code_length s, (accepted_valid s e).few)
