-- A sheet out of the records of its code: its blocks, its heading, and the whole. Assumes nothing.
use Rattle.std.specs.Prelude.{◌≡◌, ℕ, zero, suc, ◌+◌, ◌-◌, ◌*◌, ◌%◌, ◌≤◌, ◌<◌, get_or, set, refl, List, [], ◌∷◌, ◌++◌, length, take, drop, replicate}
use Rattle.std.proofs.Common.{sym, ap, ap₂, ◌∙◌, zero-add, add-one, arith, length-append, length-take, drop_of_length-le, take-append-drop, get_or-take, ext_get_or, append_assoc, append-nil, length-drop, take_at, drop_at, take_all, drop-drop, get_or-drop, length-take-le}
use Rattle.std.proofs.Math.ListN.{get_or-append}
use Rattle.std.proofs.lemmas.List.{length-replicate}
use Rattle.std.proofs.Math.Seq.{take-append-add}
use Rattle.base.specs.Sizes.{block_bytes, records_from, block_records, record_bytes, max_instructions, max_blocks}
use Rattle.base.specs.Lists.{tab, sum, gather, joins}
use Rattle.base.specs.Bytes.{bytes_of, part}
use Rattle.base.specs.ListLaws.{copies_at, tab_snoc}
use Rattle.base.specs.JoinLaws.{by_lt, get_d_behind}
use Rattle.base.specs.WriteLaws.{part_more, wrote, wrote_more, wrote_all}
use Rattle.stackless_bytecode.specs.declared.Bytecode.{Bytecode}
use Rattle.sheet.specs.Layout.{heading_rest, encode, record_blocks, block_of, body_of, sheet_of}
use Rattle.base.specs.GrowLaws.{gather_append}
use Rattle.sheet_writer.specs.Written.{placed, body_bytes, gap_bytes, later_of, Blocks, Holds, Blank}
use Rattle.sheet_writer.specs.EncodeLaws.{block_length, sheet_length}
use Rattle.sheet_writer.specs.RecordsLaws.{records_length, placed_length, tail_is}

-- ---- a copy of as many bytes

pub copy_more : (from d out : List ℕ) (i x : ℕ) → i < length from → length d ≡ length from → out ≡ wrote d from i → x ≡ get_or from i 0 → set out i x ≡ wrote d from (i + 1)
copy_more from d out i x l size e q = ap₂ (λ (y : List ℕ) (v : ℕ). set y i v) e q ∙ wrote_more d from i (omega arith) l

pub copy_all : (from d out : List ℕ) (i : ℕ) → length from ≤ i → i ≤ length from → length d ≡ length from → out ≡ wrote d from i → out ≡ from
copy_all from d out i l h size e =
    let end : i ≡ length from = omega arith in
    e ∙ wrote_all d from i end ∙ ap (λ (x : List ℕ). from ++ x) (drop_of_length-le d {i = length from} (omega arith)) ∙ append-nil from

-- ---- a block

-- a block whose bytes from 4 on are in place: its number is put, then its check
pub sealed : (b c : ℕ) (d one two : List ℕ) → length d ≡ block_bytes → one ≡ bytes_of 2 b → c ≡ (sum (take 2 (one ++ drop 2 d)) + sum (take (block_bytes - 4) (drop 4 (one ++ drop 2 d)))) % 65536 → two ≡ bytes_of 2 c
    → take 2 (one ++ drop 2 d) ++ (two ++ drop 2 (drop 2 (one ++ drop 2 d))) ≡ block_of b (drop 4 d)
unfolding block_of
sealed b c d one two size e1 ec e2 =
    let long : length one ≡ 2 = ap length e1 ∙ (unfold bytes_of in refl) in
    let front : take 2 (one ++ drop 2 d) ≡ one = take_at one (drop 2 d) 2 long in
    let behind : drop 2 (one ++ drop 2 d) ≡ drop 2 d = drop_at one (drop 2 d) 2 long in
    let four : drop 4 (one ++ drop 2 d) ≡ drop 4 d = sym (drop-drop 2 2 (one ++ drop 2 d)) ∙ ap (drop 2) behind ∙ drop-drop 2 2 d in
    let rest : take (block_bytes - 4) (drop 4 (one ++ drop 2 d)) ≡ drop 4 d = ap (take (block_bytes - 4)) four ∙ take_all (block_bytes - 4) (drop 4 d) (omega (arith, length-drop 4 d)) in
    let check : c ≡ (sum (bytes_of 2 b) + sum (drop 4 d)) % 65536 = ec ∙ ap₂ (λ (x y : List ℕ). (sum x + sum y) % 65536) (front ∙ e1) rest in
    ap₂ (λ (x y : List ℕ). x ++ (two ++ drop 2 y)) (front ∙ e1) behind
    ∙ ap (λ (x : List ℕ). bytes_of 2 b ++ (two ++ x)) (drop-drop 2 2 d)
    ∙ ap (λ (x : List ℕ). bytes_of 2 b ++ (x ++ drop 4 d)) (e2 ∙ ap (bytes_of 2) check)
    ∙ sym (append_assoc (bytes_of 2 b) (bytes_of 2 ((sum (bytes_of 2 b) + sum (drop 4 d)) % 65536)) (drop 4 d))

-- ---- the records of a block, out of the records of all code

module _ (code : List Bytecode) (size b : ℕ) (room : body_bytes * b + body_bytes ≤ size) (some : block_records * b ≤ length code) where
  -- the code from block b on: its own, and what comes behind; and the zeros behind all code
  own : List ℕ
  own = gather encode (take block_records (drop (block_records * b) code))

  more : List ℕ
  more = gather encode (drop block_records (drop (block_records * b) code))

  blank : List ℕ
  blank = drop (record_bytes * length code) (replicate size 0)

  before : List ℕ
  before = gather encode (take (block_records * b) code)

  before_length : length before ≡ body_bytes * b
  unfolding before
  before_length = records_length (take (block_records * b) code) ∙ (omega (arith, length-take-le (block_records * b) code some))

  all_is : gather encode code ≡ before ++ (own ++ more)
  unfolding before own more
  all_is =
      ap (gather encode) (sym (take-append-drop (block_records * b) code)) ∙ gather_append encode (take (block_records * b) code) (drop (block_records * b) code)
      ∙ ap (λ (x : List ℕ). gather encode (take (block_records * b) code) ++ x)
      (ap (gather encode) (sym (take-append-drop block_records (drop (block_records * b) code))) ∙ gather_append encode (take block_records (drop (block_records * b) code)) (drop block_records (drop (block_records * b) code)))

  from_is : drop (body_bytes * b) (placed code (replicate size 0)) ≡ own ++ (more ++ blank)
  unfolding blank
  from_is =
      ap (λ (x : List ℕ). drop (body_bytes * b) (x ++ drop (record_bytes * length code) (replicate size 0))) all_is
      ∙ ap (drop (body_bytes * b)) (append_assoc before (own ++ more) (drop (record_bytes * length code) (replicate size 0)))
      ∙ drop_at before ((own ++ more) ++ drop (record_bytes * length code) (replicate size 0)) (body_bytes * b) before_length
      ∙ append_assoc own more (drop (record_bytes * length code) (replicate size 0))

  own_length : length own ≡ record_bytes * length (take block_records (drop (block_records * b) code))
  unfolding own
  own_length = records_length (take block_records (drop (block_records * b) code))

  -- where the block's own records end within it, zeros follow
  behind_own : (i : ℕ) → i < body_bytes → length own ≤ i → get_or (more ++ blank) (i - length own) 0 ≡ 0
  behind_own i h l =
      let short : length (drop (block_records * b) code) < block_records = omega (arith, own_length, length-take block_records (drop (block_records * b) code)) in
      ap (λ (x : List ℕ). get_or (x ++ blank) (i - length own) 0) (none short) ∙ zero_at (i - length own)
    where
      none : length (drop (block_records * b) code) < block_records → more ≡ []
      none s = unfold more in ap (gather encode) (drop_of_length-le (drop (block_records * b) code) {i = block_records} (omega arith))

      zero_at : (j : ℕ) → get_or blank j 0 ≡ 0
      zero_at j = unfold blank in get_or-drop (record_bytes * length code) (replicate size 0) j 0 ∙ copies_at size (record_bytes * length code + j) 0

  same_at : (i : ℕ) → i < body_bytes → get_or (own ++ (more ++ blank)) i 0 ≡ get_or (own ++ replicate body_bytes 0) i 0
  same_at i h =
      by_lt i (length own) (λ l. get_or-append own (more ++ blank) 0 i l ∙ sym (get_or-append own (replicate body_bytes 0) 0 i l))
      (λ l. get_d_behind own (more ++ blank) i 0 l ∙ behind_own i h l ∙ sym (get_d_behind own (replicate body_bytes 0) i 0 l ∙ copies_at body_bytes (i - length own) 0))

  flat_length : record_bytes * length code ≤ size → length (placed code (replicate size 0)) ≡ size
  flat_length f = placed_length code (replicate size 0) (omega (arith, length-replicate {A = ℕ} size 0)) ∙ length-replicate {A = ℕ} size 0

  part_is : record_bytes * length code ≤ size → part (placed code (replicate size 0)) (body_bytes * b) body_bytes ≡ take body_bytes (own ++ replicate body_bytes 0)
  part_is f =
      let left : length (part (placed code (replicate size 0)) (body_bytes * b) body_bytes) ≡ body_bytes = length-take body_bytes (drop (body_bytes * b) (placed code (replicate size 0))) ∙ (omega (arith, length-drop (body_bytes * b) (placed code (replicate size 0)), flat_length f)) in
      let right : length (take body_bytes (own ++ replicate body_bytes 0)) ≡ body_bytes = length-take body_bytes (own ++ replicate body_bytes 0) ∙ (omega (arith, length-append own (replicate body_bytes 0), length-replicate {A = ℕ} body_bytes 0)) in
      ext_get_or 0 _ _ (left ∙ sym right)
      (λ i l. let h : i < body_bytes = omega (arith, left) in
      get_or-take body_bytes (drop (body_bytes * b) (placed code (replicate size 0))) i 0 h ∙ ap (λ (x : List ℕ). get_or x i 0) from_is ∙ same_at i h ∙ sym (get_or-take body_bytes (own ++ replicate body_bytes 0) i 0 h))

  pub body_is : record_bytes * length code ≤ size → body_of code b ≡ replicate gap_bytes 0 ++ part (placed code (replicate size 0)) (body_bytes * b) body_bytes
  body_is f = here ∙ ap (λ (x : List ℕ). replicate gap_bytes 0 ++ x) (sym (part_is f))
    where
      here : body_of code b ≡ replicate gap_bytes 0 ++ take body_bytes (own ++ replicate body_bytes 0)
      here = unfold body_of own in (ap (take (block_bytes - 4)) (append_assoc (replicate gap_bytes 0) (gather encode (take block_records (drop (block_records * b) code))) (replicate body_bytes 0)) ∙ take-append-add (replicate gap_bytes 0) (gather encode (take block_records (drop (block_records * b) code)) ++ replicate body_bytes 0) body_bytes)

-- ---- the parts of a block's bytes, put in place before it is sealed

-- the heading: bytes 6 on, then the count
pub heading_parts : (d rest n : List ℕ) → length d ≡ block_bytes → length rest ≡ block_bytes - 6
    → drop 4 (take 4 (take 6 d ++ (rest ++ drop (block_bytes - 6) (drop 6 d))) ++ (n ++ drop 2 (drop 4 (take 6 d ++ (rest ++ drop (block_bytes - 6) (drop 6 d)))))) ≡ n ++ rest
heading_parts d rest n size long =
    let six : length (take 6 d) ≡ 6 = length-take-le 6 d (omega arith) in
    let none : drop (block_bytes - 6) (drop 6 d) ≡ [] = drop_of_length-le (drop 6 d) {i = block_bytes - 6} (omega (arith, length-drop 6 d)) in
    let is : take 6 d ++ (rest ++ drop (block_bytes - 6) (drop 6 d)) ≡ take 6 d ++ rest = ap (λ (x : List ℕ). take 6 d ++ (rest ++ x)) none ∙ ap (λ (x : List ℕ). take 6 d ++ x) (append-nil rest) in
    let four : length (take 4 (take 6 d ++ rest)) ≡ 4 = length-take-le 4 (take 6 d ++ rest) (omega (arith, length-append (take 6 d) rest)) in
    ap (λ (x : List ℕ). drop 4 (take 4 x ++ (n ++ drop 2 (drop 4 x)))) is
    ∙ drop_at (take 4 (take 6 d ++ rest)) (n ++ drop 2 (drop 4 (take 6 d ++ rest))) 4 four
    ∙ ap (λ (x : List ℕ). n ++ x) (drop-drop 2 4 (take 6 d ++ rest) ∙ drop_at (take 6 d) rest 6 six)

pub heading_rest_lem : (s rest : List ℕ) → block_bytes ≤ length s → rest ≡ heading_rest s → length rest ≡ block_bytes - 6
heading_rest_lem s rest h e = ap length e ∙ length-take (block_bytes - 6) (drop 6 s) ∙ (omega (arith, length-drop 6 s))

-- a later block: the zeros, then the records
pub later_parts : (d gap records : List ℕ) → length d ≡ block_bytes → length gap ≡ gap_bytes
    → drop 4 (take records_from (take 4 d ++ (gap ++ drop gap_bytes (drop 4 d))) ++ (records ++ drop body_bytes (drop records_from (take 4 d ++ (gap ++ drop gap_bytes (drop 4 d)))))) ≡ gap ++ records
later_parts d gap records size long =
    let four : length (take 4 d) ≡ 4 = length-take-le 4 d (omega arith) in
    let front : length (take 4 d ++ gap) ≡ records_from = length-append (take 4 d) gap ∙ (omega arith) in
    let is : take 4 d ++ (gap ++ drop gap_bytes (drop 4 d)) ≡ (take 4 d ++ gap) ++ drop records_from d = ap (λ (x : List ℕ). take 4 d ++ (gap ++ x)) (drop-drop gap_bytes 4 d) ∙ sym (append_assoc (take 4 d) gap (drop records_from d)) in
    let none : drop body_bytes (drop records_from d) ≡ [] = drop_of_length-le (drop records_from d) {i = body_bytes} (omega (arith, length-drop records_from d)) in
    ap (λ (x : List ℕ). drop 4 (take records_from x ++ (records ++ drop body_bytes (drop records_from x)))) is
    ∙ ap₂ (λ (x y : List ℕ). drop 4 (x ++ (records ++ drop body_bytes y))) (take_at (take 4 d ++ gap) (drop records_from d) records_from front) (drop_at (take 4 d ++ gap) (drop records_from d) records_from front)
    ∙ ap (λ (x : List ℕ). drop 4 ((take 4 d ++ gap) ++ (records ++ x))) none ∙ ap (λ (x : List ℕ). drop 4 ((take 4 d ++ gap) ++ x)) (append-nil records)
    ∙ ap (drop 4) (append_assoc (take 4 d) gap records) ∙ drop_at (take 4 d) (gap ++ records) 4 four

-- ---- all later blocks

later_long : (flat : List ℕ) (b : ℕ) → body_bytes * b + body_bytes ≤ length flat → length (later_of flat b) ≡ block_bytes
unfolding later_of
later_long flat b h =
    block_length (1 + b) (replicate gap_bytes 0 ++ part flat (body_bytes * b) body_bytes)
    (length-append (replicate gap_bytes 0) (part flat (body_bytes * b) body_bytes) ∙ (omega (arith, length-replicate {A = ℕ} gap_bytes 0, length-take body_bytes (drop (body_bytes * b) flat), length-drop (body_bytes * b) flat)))

pub later_by : (flat : List ℕ) (b : ℕ) (new : List ℕ) → new ≡ block_of (1 + b) (replicate gap_bytes 0 ++ take (body_bytes * b + body_bytes - body_bytes * b) (drop (body_bytes * b) flat)) → new ≡ later_of flat b
unfolding later_of
later_by flat b new e =
    let span : body_bytes * b + body_bytes - body_bytes * b ≡ body_bytes = omega arith in
    e ∙ ap (λ (x : ℕ). block_of (1 + b) (replicate gap_bytes 0 ++ take x (drop (body_bytes * b) flat))) span

pub blocks_none : (flat d : List ℕ) → Blocks flat d 0 d
unfolding joins
blocks_none flat d = record { is = refl; long = refl }

pub blocks_more : (flat d : List ℕ) (b : ℕ) (out new : List ℕ) → body_bytes * b + body_bytes ≤ length flat → new ≡ later_of flat b → Blocks flat d b out
    → Blocks flat d (b + 1) (take (block_bytes * b) out ++ (new ++ drop (block_bytes * b + block_bytes - block_bytes * b) (drop (block_bytes * b) out)))
blocks_more flat d b out new h e w = record {
  is = ap₂ (λ (x : List ℕ) (y : ℕ). take (block_bytes * b) x ++ (new ++ drop y (drop (block_bytes * b) x))) w.is span
      ∙ part_more (joins b (later_of flat)) new d (block_bytes * b) block_bytes w.long
      ∙ ap₂ (λ (x : List ℕ) (y : ℕ). x ++ drop y d) (ap (λ (x : List ℕ). joins b (later_of flat) ++ x) e ∙ sym next) place;
  long = ap length next ∙ length-append (joins b (later_of flat)) (later_of flat b) ∙ (omega (arith, w.long, later_long flat b h));
}
  where
    span : block_bytes * b + block_bytes - block_bytes * b ≡ block_bytes
    span = omega arith

    place : block_bytes * b + block_bytes ≡ block_bytes * (b + 1)
    place = omega arith

    next : joins (b + 1) (later_of flat) ≡ joins b (later_of flat) ++ later_of flat b
    next = ap (λ (j : ℕ). joins j (later_of flat)) (add-one b) ∙ (unfold joins in refl)

-- ---- the whole sheet

joins_gather : (n : ℕ) (f : ℕ → List ℕ) → joins n f ≡ gather f (tab n 0 (λ b. b))
joins_gather zero f = unfold joins tab in refl
joins_gather (suc n) f =
    let next : joins (suc n) f ≡ joins n f ++ f n = unfold joins in refl in
    next ∙ ap (λ (x : List ℕ). x ++ f n) (joins_gather n f)
    ∙ sym (ap (gather f) (tab_snoc n 0 (λ b. b)) ∙ gather_append f (tab n 0 (λ b. b)) ((0 + n) ∷ []) ∙ ap (λ (x : List ℕ). gather f (tab n 0 (λ b. b)) ++ x) (one (0 + n) ∙ ap f (zero-add n)))
  where
    one : (x : ℕ) → gather f (x ∷ []) ≡ f x
    one x = append-nil (f x)

pub joins_agree : {A : Type 0} (n : ℕ) (f g : ℕ → List A) → ((k : ℕ) → k < n → f k ≡ g k) → joins n f ≡ joins n g
unfolding joins
joins_agree zero f g h = refl
joins_agree (suc n) f g h = ap₂ ◌++◌ (joins_agree n f g (λ k l. h k (omega arith))) (h n (omega arith))

-- a front is written, and then the rest of the slice, from a on, is lent and comes back
behind : (a m : ℕ) (d first later more : List ℕ) → length first ≡ a → later ≡ more ++ drop m (take (length (first ++ drop a d) - a) (drop a (first ++ drop a d)))
    → take a (first ++ drop a d) ++ (later ++ drop (length (first ++ drop a d) - a) (drop a (first ++ drop a d))) ≡ (first ++ more) ++ drop (a + m) d
behind a m d first later more e q =
    let x = first ++ drop a d in
    let tail : drop a x ≡ drop a d = drop_at first (drop a d) a e in
    let none : drop (length x - a) (drop a x) ≡ [] = drop_of_length-le (drop a x) {i = length x - a} (omega (arith, length-drop a x)) in
    ap₂ (λ (y z : List ℕ). y ++ (later ++ z)) (take_at first (drop a d) a e) none
    ∙ ap (λ (y : List ℕ). first ++ y) (append-nil later ∙ q ∙ ap (λ (y : List ℕ). more ++ drop m y) (tail_is x a ∙ tail) ∙ ap (λ (y : List ℕ). more ++ y) (drop-drop m a d))
    ∙ sym (append_assoc first more (drop (a + m) d))

module _ (rest : List ℕ) (code : List Bytecode) (flat : List ℕ) (h : Holds flat code) where
  enough : record_bytes * length code ≤ h.size
  unfolding record_blocks
  enough = omega (arith, h.room)

  later_is : (b : ℕ) → b < record_blocks (length code) → later_of flat b ≡ block_of (1 + b) (body_of code b)
  later_is b l =
      let is : later_of flat b ≡ block_of (1 + b) (replicate gap_bytes 0 ++ part (placed code (replicate h.size 0)) (body_bytes * b) body_bytes) = unfold later_of in ap (λ (x : List ℕ). block_of (1 + b) (replicate gap_bytes 0 ++ part x (body_bytes * b) body_bytes)) h.is in
      is ∙ ap (block_of (1 + b)) (sym (body_is code h.size b (omega (arith, h.room)) (unfold record_blocks in omega arith) enough))

  sheet_is : block_of 0 (bytes_of 2 (length code) ++ rest) ++ joins (record_blocks (length code)) (later_of flat) ≡ sheet_of rest code
  sheet_is =
      ap (λ (x : List ℕ). block_of 0 (bytes_of 2 (length code) ++ rest) ++ x)
      (joins_agree (record_blocks (length code)) (later_of flat) (λ b. block_of (1 + b) (body_of code b)) later_is ∙ joins_gather (record_blocks (length code)) (λ b. block_of (1 + b) (body_of code b)))
      ∙ whole
    where
      whole : block_of 0 (bytes_of 2 (length code) ++ rest) ++ gather (λ b. block_of (1 + b) (body_of code b)) (tab (record_blocks (length code)) 0 (λ b. b)) ≡ sheet_of rest code
      whole = unfold sheet_of in refl

  -- the heading, and all later blocks behind it
  pub sheet_written : (m : ℕ) (d first later : List ℕ) → length rest ≡ block_bytes - 6 → m ≡ record_blocks (length code) → first ≡ block_of 0 (bytes_of 2 (length code) ++ rest)
      → Blocks flat (take (length (first ++ drop block_bytes d) - block_bytes) (drop block_bytes (first ++ drop block_bytes d))) m later
      → take block_bytes (first ++ drop block_bytes d) ++ (later ++ drop (length (first ++ drop block_bytes d) - block_bytes) (drop block_bytes (first ++ drop block_bytes d)))
      ≡ sheet_of rest code ++ drop (length (sheet_of rest code)) d
  sheet_written m d first later size em ef w =
      let long : length first ≡ block_bytes = ap length ef ∙ block_length 0 (bytes_of 2 (length code) ++ rest) (length-append (bytes_of 2 (length code)) rest ∙ (unfold bytes_of in omega arith)) in
      let all : first ++ joins m (later_of flat) ≡ sheet_of rest code = ap₂ (λ (x : List ℕ) (y : ℕ). x ++ joins y (later_of flat)) ef em ∙ sheet_is in
      let place : block_bytes + block_bytes * m ≡ length (sheet_of rest code) = sym (length-append first (joins m (later_of flat)) ∙ (omega (arith, w.long))) ∙ ap length all in
      behind block_bytes (block_bytes * m) d first later (joins m (later_of flat)) long w.is
      ∙ ap₂ (λ (x : List ℕ) (y : ℕ). x ++ drop y d) all place

  pub sheet_size : (m : ℕ) → length rest ≡ block_bytes - 6 → m ≡ record_blocks (length code) → block_bytes * (1 + m) ≡ length (sheet_of rest code)
  sheet_size m size em = ap (λ (x : ℕ). block_bytes * (1 + x)) em ∙ sym (sheet_length rest code size)

-- no more later blocks than the longest sheet has
pub few_blocks : (n : ℕ) → n ≤ max_instructions → record_blocks n < max_blocks
unfolding record_blocks
few_blocks n h = omega arith

-- ---- zeros that take the records

pub blank_long : {flat : List ℕ} → Blank flat → body_bytes * (max_blocks - 1) ≤ length flat
blank_long b = omega (arith, ap length b.is, length-replicate {A = ℕ} b.size 0, b.room)

pub blank_holds : (code : List Bytecode) (before after : List ℕ) → Blank before → length code ≤ max_instructions → after ≡ placed code before → Holds after code
blank_holds code before after b l e = record {
  size = b.size;
  is = e ∙ ap (placed code) b.is;
  room = omega (arith, b.room, few_blocks (length code) l);
}
