-- What is written is read again: numbers, records, blocks, and the code of a whole sheet. Assumes nothing.
use Rattle.std.specs.Prelude.{◌≡◌, true, ℕ, zero, suc, ◌+◌, ◌-◌, ◌*◌, ◌/◌, ◌%◌, ◌≤◌, ◌<◌, get_or, drop, replicate, refl, List, [], ◌∷◌, ◌++◌, take, length}
use Rattle.std.proofs.Common.{ap, ap₂, sym, ◌∙◌, ⊎_elim, mod-lt, arith, length-append, length-take, length-drop, drop_at, drop-drop, take-take, get_or-append-add, get_or-take, append_assoc, append-nil, zero-add, take_at, get_or-drop, ext_get_or}
use mathlib.Core.List.Memᴰ
use mathlib.Core.List.{Memᴰ}
use Rattle.std.proofs.Math.ListN.{get_or-append}
use Rattle.std.proofs.lemmas.List.{length-replicate}
use Rattle.std.proofs.Math.Seq.{drop-append-add}
use Rattle.stackless_bytecode.specs.declared.Bytecode.{Bytecode}
use Rattle.base.specs.Sizes.{block_bytes, list_places, record_bytes, records_from, block_records, max_number}
use Rattle.base.specs.Lists.{tab, sum, gather, zeros}
use Rattle.base.specs.Bytes.{bytes_of, part, u16_at, u32_at}
use Rattle.sheet.specs.Layout.{block_at, check_of, count_of, record_start, decode, instruction_at, code_of, padded, encode, block_of, record_blocks, body_of, sheet_of}
use Rattle.stackless_bytecode.specs.Kinds.{nop, at}
use Rattle.sheet_writer.specs.Written.{body_bytes, gap_bytes}
use Rattle.base.specs.PartLaws.{front_part, gather_length, chunk, beyond, zeros_replicate, zeros_take, zeros_drop}
use Rattle.base.specs.ListLaws.{in_take, in_drop, in_gather, get_d_tab, length_tab}

-- ---- numbers

two_bytes : (x : ℕ) → x ≤ max_number → x % 256 + 256 * (x / 256 % 256) ≡ x
two_bytes x h = omega arith

digits : (x q1 q2 q3 : ℕ) → q1 ≡ x / 256 → q2 ≡ q1 / 256 → q3 ≡ q2 / 256 → q3 < 256 → x % 256 + 256 * (q1 % 256) + 65536 * (q2 % 256) + 16777216 * (q3 % 256) ≡ x
digits x q1 q2 q3 a b c h =
    let s : q3 % 256 ≡ q3 = omega arith in
    let m : q2 ≡ 256 * q3 + q2 % 256 = omega arith in
    let n : q1 ≡ 256 * q2 + q1 % 256 = omega arith in
    let o : x ≡ 256 * q1 + x % 256 = omega arith in
    omega arith

four_bytes : (x : ℕ) → x < 4294967296 → x % 256 + 256 * (x / 256 % 256) + 65536 * (x / 256 / 256 % 256) + 16777216 * (x / 256 / 256 / 256 % 256) ≡ x
four_bytes x h = digits x (x / 256) (x / 256 / 256) (x / 256 / 256 / 256) refl refl refl (omega arith)

-- ---- one record

-- all bytes
pub record Small (xs : List ℕ) : Type 0 where
  pub each : (x : ℕ) → Memᴰ x xs → x < 256

-- what a record's bytes can hold
pub record Encodes (r : Bytecode) : Type 0 where
  pub kind : r.kind < 256
  pub sub : r.sub < 256
  pub ndst : r.ndst < 256
  pub nsrc : r.nsrc < 256
  pub flag : r.flag < 256
  pub abort : r.abort < 256
  pub dsts_small : Small r.dsts
  pub srcs_small : Small r.srcs
  pub attr : r.attr ≤ max_number
  pub one : r.one ≤ max_number
  pub two : r.two ≤ max_number
  pub payload : r.payload < 4294967296
  pub dsts : length r.dsts ≡ list_places
  pub srcs : length r.srcs ≡ list_places

-- a list that has all its places is not padded
pub padded_full : (xs : List ℕ) → length xs ≡ list_places → padded xs ≡ xs
unfolding padded
padded_full xs h = take_at xs (replicate list_places 0) list_places h

-- behind both lists
behind_lists : (ds ss bs : List ℕ) → length ds ≡ list_places → length ss ≡ list_places → (i : ℕ) → get_or (ds ++ ss ++ bs) (2 * list_places + i) 0 ≡ get_or bs i 0
behind_lists ds ss bs hd hs i =
    let a : 2 * list_places + i ≡ length ds + (list_places + i) = omega arith in
    let b : list_places + i ≡ length ss + i = omega arith in
    ap₂ (λ (l : List ℕ) (x : ℕ). get_or l x 0) (append_assoc ds ss bs) a ∙ get_or-append-add ds (ss ++ bs) (list_places + i) 0
    ∙ ap (λ (x : ℕ). get_or (ss ++ bs) x 0) b ∙ get_or-append-add ss bs i 0

pub padded_size : (xs : List ℕ) → length (padded xs) ≡ list_places
unfolding padded
padded_size xs =
    length-take list_places (xs ++ replicate list_places 0) ∙ (omega (arith, length-append xs (replicate list_places 0), length-replicate {A = ℕ} list_places 0))

-- the payload's bytes
abbrev four_of : ℕ → List ℕ
four_of x = x % 256 ∷ x / 256 % 256 ∷ x / 256 / 256 % 256 ∷ x / 256 / 256 / 256 % 256 ∷ []

read_dsts : (ds ss bs : List ℕ) → length ds ≡ list_places → take list_places (padded ds ++ padded ss ++ bs) ≡ ds
read_dsts ds ss bs h = ap (take list_places) (append_assoc (padded ds) (padded ss) bs) ∙ take_at (padded ds) (padded ss ++ bs) list_places (padded_size ds) ∙ padded_full ds h

read_srcs : (ds ss bs : List ℕ) → length ss ≡ list_places → take list_places (drop list_places (padded ds ++ padded ss ++ bs)) ≡ ss
read_srcs ds ss bs h =
    ap (λ (l : List ℕ). take list_places (drop list_places l)) (append_assoc (padded ds) (padded ss) bs) ∙ ap (take list_places) (drop_at (padded ds) (padded ss ++ bs) list_places (padded_size ds)) ∙ take_at (padded ss) bs list_places (padded_size ss) ∙ padded_full ss h

read_payload : (ds ss : List ℕ) (x : ℕ) → x < 4294967296 → u32_at (padded ds ++ padded ss ++ four_of x) (2 * list_places) ≡ x
read_payload ds ss x h =
    let d : (i : ℕ) → get_or (padded ds ++ padded ss ++ four_of x) (2 * list_places + i) 0 ≡ get_or (four_of x) i 0 = behind_lists (padded ds) (padded ss) (four_of x) (padded_size ds) (padded_size ss) in
    omega (arith, d 0, d 1, d 2, d 3, four_bytes x h)

pub record_again : (r : Bytecode) → Encodes r → decode (encode r) ≡ r
unfolding decode encode bytes_of
record_again r e = λ i. record {
  kind = r.kind;
  sub = r.sub;
  attr = two_bytes r.attr e.attr i;
  one = two_bytes r.one e.one i;
  two = two_bytes r.two e.two i;
  ndst = r.ndst;
  nsrc = r.nsrc;
  flag = r.flag;
  abort = r.abort;
  dsts = read_dsts r.dsts r.srcs (four_of r.payload) e.dsts i;
  srcs = read_srcs r.dsts r.srcs (four_of r.payload) e.srcs i;
  payload = read_payload r.dsts r.srcs r.payload e.payload i;
}

pub record_size : (r : Bytecode) → length (encode r) ≡ record_bytes
unfolding encode bytes_of
record_size r =
    let all : length (padded r.dsts ++ padded r.srcs ++ four_of r.payload) ≡ 2 * list_places + 4 = omega (arith, length-append (padded r.dsts ++ padded r.srcs) (four_of r.payload), length-append (padded r.dsts) (padded r.srcs), padded_size r.dsts, padded_size r.srcs) in
    ap (λ (x : ℕ). suc (suc (suc (suc (suc (suc (suc (suc (suc (suc (suc (suc x)))))))))))) all

-- ---- a block

abbrev two_of : ℕ → List ℕ
two_of x = x % 256 ∷ x / 256 % 256 ∷ []

block_is : (b : ℕ) (body : List ℕ) → block_of b body ≡ b % 256 ∷ b / 256 % 256 ∷ ((sum (two_of b) + sum body) % 65536) % 256 ∷ ((sum (two_of b) + sum body) % 65536) / 256 % 256 ∷ body
unfolding block_of bytes_of
block_is b body = refl

pub block_length : (b : ℕ) (body : List ℕ) → length body ≡ block_bytes - 4 → length (block_of b body) ≡ block_bytes
block_length b body h = ap length (block_is b body) ∙ (omega arith)

-- behind its number and check
block_body : (b : ℕ) (body : List ℕ) (m : ℕ) → drop (4 + m) (block_of b body) ≡ drop m body
block_body b body m = sym (drop-drop m 4 (block_of b body)) ∙ ap (λ (l : List ℕ). drop m (drop 4 l)) (block_is b body)

-- its number and its check are right
pub block_number : (b : ℕ) (body : List ℕ) → b ≤ max_number → u16_at (block_of b body) 0 ≡ b
block_number b body h = ap (λ (l : List ℕ). u16_at l 0) (block_is b body) ∙ two_bytes b h

pub block_check : (b : ℕ) (body : List ℕ) → u16_at (block_of b body) 2 ≡ check_of (block_of b body)
unfolding check_of sum
block_check b body =
    let small : (sum (two_of b) + sum body) % 65536 < 65536 = mod-lt (sum (two_of b) + sum body) (omega arith) in
    ap (λ (l : List ℕ). u16_at l 2) (block_is b body)
    ∙ two_bytes ((sum (two_of b) + sum body) % 65536) (omega arith)
    ∙ sym (ap (λ (l : List ℕ). (sum (take 2 l) + sum (drop 4 l)) % 65536) (block_is b body))

-- ---- the records of a block

body_length : (code : List Bytecode) (b : ℕ) → length (body_of code b) ≡ block_bytes - 4
unfolding body_of
body_length code b =
    let inner = gather encode (take block_records (drop (block_records * b) code)) in
    length-take (block_bytes - 4) (replicate gap_bytes 0 ++ inner ++ replicate body_bytes 0)
    ∙ (omega (arith, length-append (replicate gap_bytes 0 ++ inner) (replicate body_bytes 0), length-append (replicate gap_bytes 0) inner, length-replicate {A = ℕ} gap_bytes 0, length-replicate {A = ℕ} body_bytes 0))

-- the bytes of place r of a block's body
body_part : (code : List Bytecode) (b r : ℕ) → r < block_records
    → take record_bytes (drop (gap_bytes + record_bytes * r) (body_of code b)) ≡ take record_bytes (drop (record_bytes * r) (gather encode (take block_records (drop (block_records * b) code)) ++ replicate body_bytes 0))
unfolding body_of
body_part code b r h =
    let inner = gather encode (take block_records (drop (block_records * b) code)) in
    front_part 0 (gap_bytes + record_bytes * r) record_bytes (block_bytes - 4) (replicate gap_bytes 0 ++ inner ++ replicate body_bytes 0) (omega arith)
    ∙ ap (λ (l : List ℕ). take record_bytes (drop (gap_bytes + record_bytes * r) l)) (append_assoc (replicate gap_bytes 0) inner (replicate body_bytes 0))
    ∙ ap (take record_bytes) (drop-append-add (replicate gap_bytes 0) (inner ++ replicate body_bytes 0) (record_bytes * r))

body_start : (code : List Bytecode) (b : ℕ) → zeros (take gap_bytes (body_of code b)) ≡ true
unfolding body_of
body_start code b =
    let inner = gather encode (take block_records (drop (block_records * b) code)) in
    ap zeros (take-take gap_bytes (block_bytes - 4) (replicate gap_bytes 0 ++ inner ++ replicate body_bytes 0) (omega arith)
    ∙ ap (take gap_bytes) (append_assoc (replicate gap_bytes 0) inner (replicate body_bytes 0))
    ∙ take_at (replicate gap_bytes 0) (inner ++ replicate body_bytes 0) gap_bytes refl)
    ∙ zeros_replicate gap_bytes

-- ---- the sheet

module _ (rest : List ℕ) (code : List Bytecode) (full : length rest ≡ block_bytes - 6) where
  unfoldable pub heading_block : List ℕ
  heading_block = block_of 0 (bytes_of 2 (length code) ++ rest)

  unfoldable pub later : ℕ → List ℕ
  later b = block_of (1 + b) (body_of code b)

  heading_length : length heading_block ≡ block_bytes
  unfolding heading_block bytes_of
  heading_length = block_length 0 (two_of (length code) ++ rest) (omega arith)

  later_length : (b : ℕ) → length (later b) ≡ block_bytes
  unfolding later
  later_length b = block_length (1 + b) (body_of code b) (body_length code b)

  sheet_is : sheet_of rest code ≡ heading_block ++ gather later (tab (record_blocks (length code)) 0 (λ b. b))
  unfolding sheet_of heading_block later
  sheet_is = refl

  pub sheet_length : length (sheet_of rest code) ≡ block_bytes * (1 + record_blocks (length code))
  sheet_length =
      ap length sheet_is
      ∙ (omega (arith, length-append heading_block (gather later (tab (record_blocks (length code)) 0 (λ b. b))), heading_length, gather_length block_bytes later later_length (tab (record_blocks (length code)) 0 (λ b. b)), length_tab (record_blocks (length code)) 0 (λ (b : ℕ). b)))

  pub first_block : block_at (sheet_of rest code) 0 ≡ heading_block
  unfolding block_at
  first_block = ap (λ (l : List ℕ). take block_bytes (drop (block_bytes * 0) l)) sheet_is ∙ take_at heading_block _ block_bytes heading_length

  pub later_block : (b : ℕ) → b < record_blocks (length code) → block_at (sheet_of rest code) (1 + b) ≡ later b
  unfolding block_at
  later_block b h =
      let bs = tab (record_blocks (length code)) 0 (λ (x : ℕ). x) in
      let place : block_bytes * (1 + b) ≡ length heading_block + block_bytes * b = omega (arith, heading_length) in
      ap₂ (λ (n : ℕ) (l : List ℕ). take block_bytes (drop n l)) place sheet_is
      ∙ ap (take block_bytes) (drop-append-add heading_block (gather later bs) (block_bytes * b) ∙ ap (drop (block_bytes * b)) (sym (append-nil (gather later bs))))
      ∙ chunk block_bytes later later_length bs [] b 0 (omega (arith, length_tab (record_blocks (length code)) 0 (λ (x : ℕ). x)))
      ∙ ap later (get_d_tab (record_blocks (length code)) 0 b (λ x. x) 0 h ∙ zero-add b)

  later_is : (b : ℕ) → b < record_blocks (length code) → take block_bytes (drop (block_bytes * (1 + b)) (sheet_of rest code)) ≡ block_of (1 + b) (body_of code b)
  later_is b h = unfold block_at later in later_block b h

  -- the bytes of place k
  place_part : (k : ℕ) → k / block_records < record_blocks (length code)
      → part (sheet_of rest code) (record_start k) record_bytes ≡ take record_bytes (drop (record_bytes * (k % block_records)) (gather encode (take block_records (drop (block_records * (k / block_records)) code)) ++ replicate body_bytes 0))
  place_part k h =
      let s = sheet_of rest code in
      let a = block_bytes * (1 + k / block_records) in
      let b = records_from + record_bytes * (k % block_records) in
      let sum_is : record_start k ≡ a + b = omega arith in
      let r : k % block_records < block_records = mod-lt k (omega arith) in
      let inside : b ≡ 4 + (gap_bytes + record_bytes * (k % block_records)) = omega arith in
      ap (λ (n : ℕ). take record_bytes (drop n s)) sum_is
      ∙ ap (take record_bytes) (sym (drop-drop b a s))
      ∙ sym (front_part 0 b record_bytes block_bytes (drop a s) (omega arith))
      ∙ ap (λ (l : List ℕ). take record_bytes (drop b l)) (later_is (k / block_records) h)
      ∙ ap (λ (n : ℕ). take record_bytes (drop n (block_of (1 + k / block_records) (body_of code (k / block_records))))) inside
      ∙ ap (take record_bytes) (block_body (1 + k / block_records) (body_of code (k / block_records)) (gap_bytes + record_bytes * (k % block_records)))
      ∙ body_part code (k / block_records) (k % block_records) r

  pub record_part : (k : ℕ) → k < length code → part (sheet_of rest code) (record_start k) record_bytes ≡ encode (at code k)
  record_part k h =
      let q = k / block_records in
      let r = k % block_records in
      let small : r < block_records = mod-lt k (omega arith) in
      let whole : block_records * q + r ≡ k = omega arith in
      let xs = take block_records (drop (block_records * q) code) in
      let within : r < length xs = omega (arith, length-take block_records (drop (block_records * q) code), length-drop (block_records * q) code) in
      place_part k (unfold record_blocks in omega arith)
      ∙ chunk record_bytes encode record_size xs (replicate body_bytes 0) r nop within
      ∙ ap encode (get_or-take block_records (drop (block_records * q) code) r nop small ∙ get_or-drop (block_records * q) code r nop ∙ ap (at code) whole)

  -- past the instructions the places are zero
  pub zero_part : (k : ℕ) → length code ≤ k → k < block_records * record_blocks (length code) → zeros (part (sheet_of rest code) (record_start k) record_bytes) ≡ true
  zero_part k h l =
      let q = k / block_records in
      let r = k % block_records in
      let xs = take block_records (drop (block_records * q) code) in
      let past : length xs ≤ r = omega (arith, length-take block_records (drop (block_records * q) code), length-drop (block_records * q) code) in
      ap zeros (place_part k (omega arith) ∙ ap (take record_bytes) (beyond record_bytes encode record_size xs (replicate body_bytes 0) r past))
      ∙ zeros_take record_bytes (drop (record_bytes * r - record_bytes * length xs) (replicate body_bytes 0)) (zeros_drop (record_bytes * r - record_bytes * length xs) (replicate body_bytes 0) (zeros_replicate body_bytes))

  pub count_again : length code ≤ max_number → count_of (sheet_of rest code) ≡ length code
  unfolding count_of sheet_of block_of bytes_of
  count_again h = two_bytes (length code) h

  -- the rest of the heading
  pub rest_again : (i : ℕ) → i < block_bytes - 6 → get_or (sheet_of rest code) (6 + i) 0 ≡ get_or rest i 0
  rest_again i h = sym (get_or-drop 6 (sheet_of rest code) i 0) ∙ ap (λ (l : List ℕ). get_or l i 0) behind_six ∙ get_or-append rest (gather later (tab (record_blocks (length code)) 0 (λ b. b))) 0 i (omega arith)
    where
      behind_six : drop 6 (sheet_of rest code) ≡ rest ++ gather later (tab (record_blocks (length code)) 0 (λ b. b))
      behind_six = unfold sheet_of block_of bytes_of later in refl

  pub code_again : length code ≤ max_number → ((k : ℕ) → k < length code → Encodes (at code k)) → code_of (sheet_of rest code) ≡ code
  unfolding code_of
  code_again h enc =
      ext_get_or nop (tab (count_of (sheet_of rest code)) 0 (instruction_at (sheet_of rest code))) code (length_tab (count_of (sheet_of rest code)) 0 (instruction_at (sheet_of rest code)) ∙ count_again h)
      (λ k l. let below : k < count_of (sheet_of rest code) = omega (arith, length_tab (count_of (sheet_of rest code)) 0 (instruction_at (sheet_of rest code))) in
      let inside : k < length code = omega (arith, count_again h) in
      get_d_tab (count_of (sheet_of rest code)) 0 k (instruction_at (sheet_of rest code)) nop below ∙ ap (instruction_at (sheet_of rest code)) (zero-add k) ∙ at_again k inside)
    where
      at_again : (k : ℕ) → k < length code → instruction_at (sheet_of rest code) k ≡ at code k
      at_again k l = unfold instruction_at in (ap decode (record_part k l) ∙ record_again (at code k) (enc k l))

  pub heading_number : u16_at heading_block 0 ≡ 0
  unfolding heading_block
  heading_number = block_number 0 (bytes_of 2 (length code) ++ rest) (omega arith)

  pub heading_check : u16_at heading_block 2 ≡ check_of heading_block
  unfolding heading_block
  heading_check = block_check 0 (bytes_of 2 (length code) ++ rest)

  pub later_number : (b : ℕ) → 1 + b ≤ max_number → u16_at (later b) 0 ≡ 1 + b
  unfolding later
  later_number b h = block_number (1 + b) (body_of code b) h

  pub later_check : (b : ℕ) → u16_at (later b) 2 ≡ check_of (later b)
  unfolding later
  later_check b = block_check (1 + b) (body_of code b)

  pub later_zeros : (b : ℕ) → zeros (part (later b) 4 gap_bytes) ≡ true
  unfolding later
  later_zeros b = ap (λ (l : List ℕ). zeros (take gap_bytes l)) (block_body (1 + b) (body_of code b) 0) ∙ body_start code b

-- ---- a written sheet is a list of bytes

pub small_nil : Small []
small_nil = record { each = λ x i. absurd (Memᴰ.not-nil i) }

pub small_cons : {x : ℕ} {xs : List ℕ} → x < 256 → Small xs → Small (x ∷ xs)
small_cons h s = record { each = λ y i. ⊎_elim (λ e. omega arith) (λ t. s.each y t) (Memᴰ.cases_cons i) }

pub small_append : {xs ys : List ℕ} → Small xs → Small ys → Small (xs ++ ys)
small_append {xs} a b = record { each = λ y i. ⊎_elim (a.each y) (b.each y) (Memᴰ.append_cases xs i) }

pub small_take : (n : ℕ) (xs : List ℕ) → Small xs → Small (take n xs)
small_take n xs s = record { each = λ y i. s.each y (in_take n xs i) }

pub small_drop : (n : ℕ) (xs : List ℕ) → Small xs → Small (drop n xs)
small_drop n xs s = record { each = λ y i. s.each y (in_drop n xs i) }

pub small_zeros : (n : ℕ) → Small (replicate n 0)
small_zeros zero = small_nil
small_zeros (suc n) = small_cons (omega arith) (small_zeros n)

small_gather : {A : Type 0} (f : A → List ℕ) (xs : List A) → ((x : A) → Memᴰ x xs → Small (f x)) → Small (gather f xs)
small_gather f xs h = record { each = λ y i. let r = in_gather f xs y i in (h r.0 r.1).each y r.2 }

pub small_bytes : (n x : ℕ) → Small (bytes_of n x)
unfolding bytes_of
small_bytes zero x = small_nil
small_bytes (suc n) x = small_cons (mod-lt x (omega arith)) (small_bytes n (x / 256))

pub small_padded : (xs : List ℕ) → Small xs → Small (padded xs)
unfolding padded
small_padded xs s = small_take list_places (xs ++ replicate list_places 0) (small_append s (small_zeros list_places))

pub record_small : (r : Bytecode) → Encodes r → Small (encode r)
unfolding encode
record_small r e =
    small_append (small_append (small_append (small_append (small_cons e.kind (small_cons e.sub (small_append (small_append (small_bytes 2 r.attr) (small_bytes 2 r.one)) (small_bytes 2 r.two))))
    (small_cons e.ndst (small_cons e.nsrc (small_cons e.flag (small_cons e.abort small_nil)))))
    (small_padded r.dsts e.dsts_small)) (small_padded r.srcs e.srcs_small)) (small_bytes 4 r.payload)

small_block : (b : ℕ) (body : List ℕ) → Small body → Small (block_of b body)
unfolding block_of
small_block b body s = small_append (small_append (small_bytes 2 b) (small_bytes 2 ((sum (bytes_of 2 b) + sum body) % 65536))) s

pub sheet_small : (rest : List ℕ) (code : List Bytecode) → Small rest → ((r : Bytecode) → Memᴰ r code → Encodes r) → Small (sheet_of rest code)
unfolding sheet_of body_of
sheet_small rest code s enc =
    small_append (small_block 0 (bytes_of 2 (length code) ++ rest) (small_append (small_bytes 2 (length code)) s))
    (small_gather (λ b. block_of (1 + b) (body_of code b)) (tab (record_blocks (length code)) 0 (λ b. b))
    (λ b i. small_block (1 + b) (body_of code b) (small_take (block_bytes - 4) _ (small_append (small_append (small_zeros gap_bytes) (small_gather encode (take block_records (drop (block_records * b) code)) (λ r j. record_small r (enc r (in_drop (block_records * b) code (in_take block_records (drop (block_records * b) code) j)))))) (small_zeros body_bytes)))))
