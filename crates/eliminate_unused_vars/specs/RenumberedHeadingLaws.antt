-- The sheet with a new number of locals and a new reference mask: its heading, and that it is accepted where its code is. Assumes nothing.
use Rattle.std.specs.Prelude.{◌≡◌, refl, List, ◌++◌, ℕ, ◌+◌, ◌-◌, ◌*◌, ◌/◌, ◌%◌, ◌^◌, ◌≤◌, ◌<◌, drop, length, get_or}
use Rattle.std.proofs.Common.{sym, ◌∙◌, subst, lt_of_lt_of_le, length-append, length-drop, pow_mono, get_or-take, get_or-drop, get_or-append-add, ext_get_or, length-take-le, ap, ap₂, arith}
use Rattle.std.proofs.Math.ListN.{get_or-append}
use Rattle.base.specs.Sizes.{set_bytes, refs_at, block_bytes, max_locals}
use Rattle.base.specs.Lists.{zeros}
use Rattle.base.specs.Bytes.{Bytes, number, bytes_of, part}
use Rattle.base.specs.Refusals.{Accepted}
use Rattle.base.specs.ByteLaws.{number_bytes}
use Rattle.base.specs.ListLaws.{in_get_d}
use Rattle.base.specs.PartLaws.{same_part}
use Rattle.dataflow_domains.specs.ByteLaws.{bytes_length}
use Rattle.stackless_bytecode.specs.declared.Bytecode.{Bytecode}
use Rattle.stackless_bytecode.specs.Kinds.{nop}
use Rattle.sheet.specs.Layout.{heading_rest, count_of, locals_of, user_locals_of, parameters_of, refs_of, record_blocks, code_of, sheet_of}
use Rattle.sheet.specs.Checks.{check_sheet}
use Rattle.sheet.specs.AcceptLaws.{HeadingLayout}
use Rattle.sheet_writer.specs.EncodeLaws.{Small, Encodes, small_append, small_take, small_drop, small_bytes, sheet_small, sheet_length, count_again, rest_again, code_again}
use Rattle.sheet_writer.specs.BodyLaws.{Body, small_by, by_small}
use Rattle.sheet_writer.specs.AgainLaws.{accepted_again}
use Rattle.eliminate_unused_vars.specs.Renumber.{rest_with}

-- ---- parts

part_byte : (s : List ℕ) (a c i j : ℕ) → i < c → a + i ≡ j → get_or (part s a c) i 0 ≡ get_or s j 0
part_byte s a c i j h e = get_or-take c (drop a s) i 0 h ∙ get_or-drop a s i 0 ∙ ap (λ (x : ℕ). get_or s x 0) e

part_is : (s xs : List ℕ) (a c : ℕ) → length xs ≡ c → a + c ≤ length s → ((i : ℕ) → i < c → get_or s (a + i) 0 ≡ get_or xs i 0) → part s a c ≡ xs
part_is s xs a c size inside h =
    let whole : length (part s a c) ≡ c = length-take-le c (drop a s) (omega (arith, length-drop a s)) in
    ext_get_or 0 (part s a c) xs (whole ∙ sym size) (λ i l. let below : i < c = omega arith in part_byte s a c i (a + i) below refl ∙ h i below)

-- the middle one of three lists
middle : (a b c : List ℕ) (i : ℕ) → i < length b → get_or (a ++ b ++ c) (length a + i) 0 ≡ get_or b i 0
middle a b c i h = get_or-append (a ++ b) c 0 (length a + i) (omega (arith, length-append a b)) ∙ get_or-append-add a b i 0

-- behind the reference mask
abbrev pub behind_refs : ℕ
behind_refs = refs_at + set_bytes

-- ---- the sheet with n locals, the references m and other code

-- t is s with them
pub record SheetWith (s : List ℕ) (n m : ℕ) (c : List Bytecode) (t : List ℕ) : Type 0 where
  pub bytes : Bytes t
  pub accepted : check_sheet t ≡ Accepted
  pub count : count_of t ≡ length c
  pub users : user_locals_of t ≡ user_locals_of s
  pub params : parameters_of t ≡ parameters_of s
  pub locals : locals_of t ≡ n
  pub refs : refs_of t ≡ m
  pub code : code_of t ≡ c
  pub mid : part t 8 8 ≡ part s 8 8
  pub end : part t (16 + set_bytes) (block_bytes - 16 - set_bytes) ≡ part s (16 + set_bytes) (block_bytes - 16 - set_bytes)

module _ (s : List ℕ) (old : HeadingLayout s) (n m : ℕ) (code : List Bytecode) where
  abbrev rest : List ℕ
  rest = rest_with s n m

  abbrev sheet : List ℕ
  sheet = sheet_of rest code

  long : 2 * block_bytes ≤ length s
  long = unfold record_blocks in omega (arith, old.size, old.some)

  -- the four parts of its heading behind the count
  abbrev two : List ℕ
  two = bytes_of 2 n

  abbrev mid : List ℕ
  mid = part s 8 8

  abbrev refs : List ℕ
  refs = bytes_of set_bytes m

  abbrev end : List ℕ
  end = part s behind_refs (block_bytes - behind_refs)

  mid_size : length mid ≡ 8
  mid_size = length-take-le 8 (drop 8 s) (omega (arith, length-drop 8 s, long))

  two_parts : length (two ++ mid) ≡ 10
  two_parts = omega (arith, length-append two mid, bytes_length 2 n, mid_size)

  three_parts : length (two ++ mid ++ refs) ≡ 10 + set_bytes
  three_parts = omega (arith, length-append (two ++ mid) refs, two_parts, bytes_length set_bytes m)

  rest_full : length rest ≡ block_bytes - 6
  rest_full = omega (arith, length-append (two ++ mid ++ refs) end, three_parts, length-take-le (block_bytes - behind_refs) (drop behind_refs s) (omega (arith, length-drop behind_refs s, long)))

  new_size : length sheet ≡ block_bytes * (1 + record_blocks (length code))
  new_size = sheet_length rest code rest_full

  wide : block_bytes ≤ length sheet
  wide = omega (arith, new_size)

  -- byte by byte
  rest_byte : (j i : ℕ) → j ≡ 6 + i → j < block_bytes → get_or sheet j 0 ≡ get_or rest i 0
  rest_byte j i e h = ap (λ (x : ℕ). get_or sheet x 0) e ∙ rest_again rest code rest_full i (omega arith)

  mid_byte : (j : ℕ) → 8 ≤ j → j < 16 → get_or sheet j 0 ≡ get_or s j 0
  mid_byte j l h =
      let i = length two + (j - 8) in
      rest_byte j i (omega (arith, bytes_length 2 n)) (omega arith) ∙ get_or-append (two ++ mid ++ refs) end 0 i (omega (arith, bytes_length 2 n, three_parts))
      ∙ middle two mid refs (j - 8) (omega (arith, mid_size)) ∙ part_byte s 8 8 (j - 8) j (omega arith) (omega arith)

  refs_byte : (i : ℕ) → i < set_bytes → get_or sheet (refs_at + i) 0 ≡ get_or refs i 0
  refs_byte i h = rest_byte (refs_at + i) (length (two ++ mid) + i) (omega (arith, two_parts)) (omega arith) ∙ middle (two ++ mid) refs end i (omega (arith, bytes_length set_bytes m))

  end_byte : (j : ℕ) → behind_refs ≤ j → j < block_bytes → get_or sheet j 0 ≡ get_or s j 0
  end_byte j l h =
      rest_byte j (length (two ++ mid ++ refs) + (j - behind_refs)) (omega (arith, three_parts)) h ∙ get_or-append-add (two ++ mid ++ refs) end (j - behind_refs) 0
      ∙ part_byte s behind_refs (block_bytes - behind_refs) (j - behind_refs) j (omega arith) (omega arith)

  -- part by part
  same_mid : (a c : ℕ) → 8 ≤ a → a + c ≤ 16 → part sheet a c ≡ part s a c
  same_mid a c l h = same_part sheet s a c (omega (arith, wide)) (omega (arith, long)) (λ i b. mid_byte (a + i) (omega arith) (omega arith))

  same_end : part sheet behind_refs (block_bytes - behind_refs) ≡ end
  same_end = same_part sheet s behind_refs (block_bytes - behind_refs) (omega (arith, wide)) (omega (arith, long)) (λ i b. end_byte (behind_refs + i) (omega arith) (omega arith))

  new_users : user_locals_of sheet ≡ user_locals_of s
  unfolding user_locals_of
  new_users = ap₂ (λ (x y : ℕ). x + 256 * y) (mid_byte 8 (omega arith) (omega arith)) (mid_byte 9 (omega arith) (omega arith))

  new_params : parameters_of sheet ≡ parameters_of s
  unfolding parameters_of
  new_params = ap₂ (λ (x y : ℕ). x + 256 * y) (mid_byte 10 (omega arith) (omega arith)) (mid_byte 11 (omega arith) (omega arith))

  heading_rest_lem : heading_rest sheet ≡ rest
  heading_rest_lem = part_is sheet rest 6 (block_bytes - 6) rest_full (omega (arith, wide)) (rest_again rest code rest_full)

  module _ (few : n ≤ max_locals) (users : user_locals_of s ≤ n) (narrow : m < 2 ^ n) (body : Body n code) where
    new_locals : locals_of sheet ≡ n
    unfolding locals_of bytes_of
    new_locals =
        let low : get_or sheet 6 0 ≡ n % 256 = rest_again rest code rest_full 0 (omega arith) in
        let high : get_or sheet 7 0 ≡ n / 256 % 256 = rest_again rest code rest_full 1 (omega arith) in
        omega arith

    new_refs : refs_of sheet ≡ m
    unfolding refs_of
    new_refs = ap number (part_is sheet refs refs_at set_bytes (bytes_length set_bytes m) (omega (arith, wide)) refs_byte) ∙ number_bytes set_bytes m (lt_of_lt_of_le narrow (pow_mono {i = n} {j = 8 * set_bytes} few))

    new_count : count_of sheet ≡ length code
    new_count = count_again rest code rest_full (omega (arith, body.few))

    new_bytes : Bytes s → Bytes sheet
    new_bytes bytes =
        let small : Small s = small_by s (λ i h. bytes.each i) in
        by_small sheet
        (sheet_small rest code (small_append (small_append (small_append (small_bytes 2 n) (small_take 8 (drop 8 s) (small_drop 8 s small))) (small_bytes set_bytes m)) (small_take (block_bytes - behind_refs) (drop behind_refs s) (small_drop behind_refs s small)))
        (λ r i. let p = in_get_d code r nop i in subst Encodes p.2 (body.encodes p.0 p.1)))

    layout : HeadingLayout sheet
    layout = record {
      some = omega (arith, new_count, body.some);
      few = omega (arith, new_count, body.few);
      locals = omega (arith, new_locals);
      users = omega (arith, new_users, new_locals);
      params = omega (arith, new_params, new_users, old.params);
      gap = ap zeros (same_mid 12 4 (omega arith) (omega arith)) ∙ old.gap;
      refs = subst (λ (x : ℕ). refs_of sheet < 2 ^ x) (sym new_locals) (subst (λ (x : ℕ). x < 2 ^ n) (sym new_refs) narrow);
      end = ap zeros same_end ∙ old.end;
      size = new_size ∙ ap (λ (x : ℕ). block_bytes * (1 + record_blocks x)) (sym new_count);
    }

    pub sheet_with_lem : Bytes s → SheetWith s n m code (sheet_of (rest_with s n m) code)
    sheet_with_lem bytes = record {
      bytes = new_bytes bytes;
      accepted = subst (λ (x : List ℕ). check_sheet (sheet_of x code) ≡ Accepted) heading_rest_lem (accepted_again sheet layout code (subst (λ (l : ℕ). Body l code) (sym new_locals) body));
      count = new_count;
      users = new_users;
      params = new_params;
      locals = new_locals;
      refs = new_refs;
      code = code_again rest code rest_full (omega (arith, body.few)) body.encodes;
      mid = same_mid 8 8 (omega arith) (omega arith);
      end = same_end;
    }
