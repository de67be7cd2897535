-- An accepted sheet of bytes is what its heading and its code write. Assumes nothing.
use Rattle.std.specs.Prelude.{◌≡◌, Bool, true, cond, ◌||◌, ◌&&◌, List, [], ◌∷◌, ◌++◌, ℕ, zero, suc, ◌+◌, ◌-◌, ◌*◌, ◌/◌, ◌%◌, ◌≤◌, ◌<◌, eqb, ltb, get_or, length, take, drop, refl}
use Rattle.std.proofs.Common.{sym, ap, ap₂, ◌∙◌, subst, append_assoc, zero-add, mod-lt, arith, eqb-true, ne_eqb, le-ltb, take-append-drop, drop_of_length-le, ext_get_or, drop-drop, length-take-le, length-take, length-drop, get_or-take, get_or-drop}
use Rattle.base.specs.Sizes.{block_bytes, list_places, record_bytes, records_from, block_records}
use Rattle.base.specs.Refusals.{Accepted}
use Rattle.base.specs.Lists.{tab, sum, zeros}
use Rattle.base.specs.Bytes.{bytes_of, part, u16_at, u32_at, Bytes}
use Rattle.base.specs.ListLaws.{and-true, by_eq, get_d_tab, length_tab, in_get_d}
use Rattle.base.specs.JoinLaws.{by_lt}
use Rattle.base.specs.SearchLaws.{none_all}
use Rattle.stackless_bytecode.specs.Kinds.{nop, at}
use Rattle.sheet.specs.Layout.{heading_rest, block_at, check_of, count_of, locals_of, record_blocks, record_start, record_at, decode, instruction_at, code_of, padded, encode, block_of, sheet_of}
use Rattle.sheet.specs.Checks.{block_ok, record_ok, place_ok, check_sheet}
use Rattle.sheet.specs.CheckLaws.{clear, code_length}
use Rattle.sheet.specs.Shaped.{code_at}
use Rattle.sheet_writer.specs.EncodeLaws.{Encodes, padded_full, small_take, small_drop, sheet_small, sheet_length, record_part, rest_again, count_again}
use Rattle.sheet_writer.specs.AgainLaws.{accepted_again}
use Rattle.sheet_writer.specs.BodyLaws.{Body, small_by, by_small, heading, shaped, part_length, accepted_body}

-- ---- one record

low : (a b : ℕ) → a < 256 → (a + 256 * b) % 256 ≡ a
low a b h = omega arith

high : (a b : ℕ) → a < 256 → b < 256 → (a + 256 * b) / 256 % 256 ≡ b
high a b h g = omega arith

-- the four digits of a number of four bytes
module _ (a b c d : ℕ) (ha : a < 256) (hb : b < 256) (hc : c < 256) (hd : d < 256) where
  one : (a + 256 * b + 65536 * c + 16777216 * d) % 256 ≡ a
  one = omega arith

  rest : (a + 256 * b + 65536 * c + 16777216 * d) / 256 ≡ b + 256 * c + 65536 * d
  rest = omega arith

  two : (a + 256 * b + 65536 * c + 16777216 * d) / 256 % 256 ≡ b
  two = omega (arith, rest)

  rest_two : (a + 256 * b + 65536 * c + 16777216 * d) / 256 / 256 ≡ c + 256 * d
  rest_two = ap (λ (x : ℕ). x / 256) rest ∙ (omega arith)

  three : (a + 256 * b + 65536 * c + 16777216 * d) / 256 / 256 % 256 ≡ c
  three = omega (arith, rest_two)

  four : (a + 256 * b + 65536 * c + 16777216 * d) / 256 / 256 / 256 % 256 ≡ d
  four = ap (λ (x : ℕ). x / 256 % 256) rest_two ∙ (omega arith)

-- the first n places of a list, and the rest
front_is : (n : ℕ) (p : List ℕ) → n ≤ length p → p ≡ tab n 0 (λ i. get_or p i 0) ++ drop n p
front_is n p h =
    sym (take-append-drop n p)
    ∙ ap (λ (x : List ℕ). x ++ drop n p) (ext_get_or 0 (take n p) (tab n 0 (λ i. get_or p i 0)) (length-take-le n p h ∙ sym (length_tab n 0 (λ i. get_or p i 0)))
    (λ i l. let k : i < n = omega (arith, length-take-le n p h) in get_or-take n p i 0 k ∙ sym (get_d_tab n 0 i (λ j. get_or p j 0) 0 k ∙ ap (λ (j : ℕ). get_or p j 0) (zero-add i))))

four_again : (r : List ℕ) → length r ≡ 4 → Bytes r → bytes_of 4 (u32_at r 0) ≡ r
unfolding bytes_of
four_again r size b =
    let g : ℕ → ℕ = λ (i : ℕ). get_or r i 0 in
    (λ i. one (g 0) (g 1) (g 2) (g 3) (b.each 0) (b.each 1) (b.each 2) (b.each 3) i ∷ two (g 0) (g 1) (g 2) (g 3) (b.each 0) (b.each 1) (b.each 2) (b.each 3) i
    ∷ three (g 0) (g 1) (g 2) (g 3) (b.each 0) (b.each 1) (b.each 2) (b.each 3) i ∷ four (g 0) (g 1) (g 2) (g 3) (b.each 0) (b.each 1) (b.each 2) (b.each 3) i ∷ [])
    ∙ sym (front_is 4 r (omega arith) ∙ ap (λ (x : List ℕ). tab 4 0 (λ i. get_or r i 0) ++ x) (drop_of_length-le r {i = 4} (omega arith)) ∙ digits)
  where
    digits : tab 4 0 (λ i. get_or r i 0) ++ [] ≡ get_or r 0 0 ∷ get_or r 1 0 ∷ get_or r 2 0 ∷ get_or r 3 0 ∷ []
    digits = unfold tab in refl

-- the lists and the payload
lists_again : (q : List ℕ) → length q ≡ 2 * list_places + 4 → Bytes q
    → padded (take list_places q) ++ padded (take list_places (drop list_places q)) ++ bytes_of 4 (u32_at q (2 * list_places)) ≡ q
lists_again q size b =
    let ends = drop (2 * list_places) q in
    let dsts : padded (take list_places q) ≡ take list_places q = padded_full (take list_places q) (length-take-le list_places q (omega arith)) in
    let srcs : padded (take list_places (drop list_places q)) ≡ take list_places (drop list_places q) = padded_full (take list_places (drop list_places q)) (length-take-le list_places (drop list_places q) (omega (arith, length-drop list_places q))) in
    let d : (i : ℕ) → get_or ends i 0 ≡ get_or q (2 * list_places + i) 0 = λ (i : ℕ). get_or-drop (2 * list_places) q i 0 in
    let last : bytes_of 4 (u32_at q (2 * list_places)) ≡ ends = ap (bytes_of 4) (omega (arith, d 0, d 1, d 2, d 3)) ∙ four_again ends (length-drop (2 * list_places) q ∙ (omega arith)) (record { each = λ i. omega (arith, d i, b.each (2 * list_places + i)) }) in
    ap₂ (λ (x y : List ℕ). x ++ y ++ bytes_of 4 (u32_at q (2 * list_places))) dsts srcs ∙ ap (λ (x : List ℕ). take list_places q ++ take list_places (drop list_places q) ++ x) (last ∙ sym (drop-drop list_places list_places q))
    ∙ append_assoc (take list_places q) (take list_places (drop list_places q)) (drop list_places (drop list_places q))
    ∙ ap (λ (x : List ℕ). take list_places q ++ x) (take-append-drop list_places (drop list_places q)) ∙ take-append-drop list_places q

record_bytes_lem : (g : ℕ → ℕ) (q : List ℕ) → ((i : ℕ) → g i < 256) → length q ≡ 2 * list_places + 4 → Bytes q → encode (decode (tab 12 0 g ++ q)) ≡ tab 12 0 g ++ q
unfolding encode decode tab bytes_of
record_bytes_lem g q h size b = λ i.
    g 0 ∷ g 1 ∷ low (g 2) (g 3) (h 2) i ∷ high (g 2) (g 3) (h 2) (h 3) i ∷ low (g 4) (g 5) (h 4) i ∷ high (g 4) (g 5) (h 4) (h 5) i
    ∷ low (g 6) (g 7) (h 6) i ∷ high (g 6) (g 7) (h 6) (h 7) i ∷ g 8 ∷ g 9 ∷ g 10 ∷ g 11 ∷ lists_again q size b i

-- what a record's bytes are read as writes them again
pub bytes_again : (p : List ℕ) → length p ≡ record_bytes → Bytes p → encode (decode p) ≡ p
bytes_again p size b =
    let is = front_is 12 p (omega arith) in
    ap (λ (x : List ℕ). encode (decode x)) is ∙ record_bytes_lem (λ i. get_or p i 0) (drop 12 p) b.each (length-drop 12 p ∙ (omega arith)) (record { each = λ i. omega (arith, get_or-drop 12 p i 0, b.each (12 + i)) }) ∙ sym is

-- ---- one block

-- its number and its check follow from the rest
block_from : (a b c d k : ℕ) (body : List ℕ) → a < 256 → b < 256 → c < 256 → d < 256 → a + 256 * b ≡ k → c + 256 * d ≡ (a + (b + 0) + sum body) % 65536 → a ∷ b ∷ c ∷ d ∷ body ≡ block_of k body
unfolding block_of bytes_of sum
block_from a b c d k body ha hb hc hd e f =
    let pa : a ≡ k % 256 = sym (low a b ha) ∙ ap (λ (x : ℕ). x % 256) e in
    let pb : b ≡ k / 256 % 256 = sym (high a b ha hb) ∙ ap (λ (x : ℕ). x / 256 % 256) e in
    let check : c + 256 * d ≡ (k % 256 + (k / 256 % 256 + 0) + sum body) % 65536 = f ∙ ap₂ (λ (x y : ℕ). (x + (y + 0) + sum body) % 65536) pa pb in
    let pc : c ≡ (k % 256 + (k / 256 % 256 + 0) + sum body) % 65536 % 256 = sym (low c d hc) ∙ ap (λ (x : ℕ). x % 256) check in
    let pd : d ≡ (k % 256 + (k / 256 % 256 + 0) + sum body) % 65536 / 256 % 256 = sym (high c d hc hd) ∙ ap (λ (x : ℕ). x / 256 % 256) check in
    λ i. pa i ∷ pb i ∷ pc i ∷ pd i ∷ body

-- the three tests of a block
block_tests : (p : List ℕ) (k : ℕ) → block_ok p k ≡ true → (u16_at p 0 ≡ k) × (u16_at p 2 ≡ check_of p) × (eqb k 0 || zeros (part p 4 (records_from - 4)) ≡ true)
unfolding block_ok
block_tests p k e =
    let one = and-true (eqb (u16_at p 0) k && eqb (u16_at p 2) (check_of p)) (eqb k 0 || zeros (part p 4 (records_from - 4))) e in
    let two = and-true (eqb (u16_at p 0) k) (eqb (u16_at p 2) (check_of p)) one.0 in
    (eqb-true _ k two.0, eqb-true _ _ two.1, one.1)

block_again : (p : List ℕ) (k : ℕ) → 4 ≤ length p → Bytes p → u16_at p 0 ≡ k → u16_at p 2 ≡ check_of p → p ≡ block_of k (drop 4 p)
unfolding check_of sum
block_again [] k h b e f = absurd (omega arith)
block_again (x ∷ []) k h b e f = absurd (omega arith)
block_again (x ∷ y ∷ []) k h b e f = absurd (omega arith)
block_again (x ∷ y ∷ z ∷ []) k h b e f = absurd (omega arith)
block_again (x ∷ y ∷ z ∷ w ∷ body) k h b e f = block_from x y z w k body (b.each 0) (b.each 1) (b.each 2) (b.each 3) e f

-- ---- two accepted sheets of bytes that agree from byte 4 of each block on

zeros_at : (xs : List ℕ) (i : ℕ) → zeros xs ≡ true → get_or xs i 0 ≡ 0
zeros_at [] i e = refl
zeros_at (x ∷ xs) zero e = eqb-true x 0 (and-true (eqb x 0) (zeros xs) e).0
zeros_at (x ∷ xs) (suc i) e = zeros_at xs i (and-true (eqb x 0) (zeros xs) e).1

module _ (s : List ℕ) (bytes : Bytes s) (e : check_sheet s ≡ Accepted) where
  size : length s ≡ block_bytes * (1 + record_blocks (count_of s))
  size = (heading s bytes e).size

  block_size_lem : (q : ℕ) → block_bytes * q < length s → length (block_at s q) ≡ block_bytes
  unfolding block_at
  block_size_lem q l = length-take block_bytes (drop (block_bytes * q) s) ∙ (omega (arith, length-drop (block_bytes * q) s, size))

  block_at_lem : (q o : ℕ) → o < block_bytes → get_or (block_at s q) o 0 ≡ get_or s (block_bytes * q + o) 0
  unfolding block_at
  block_at_lem q o h = get_or-take block_bytes (drop (block_bytes * q) s) o 0 h ∙ get_or-drop (block_bytes * q) s o 0

  block_bytes_lem : (q : ℕ) → Bytes (block_at s q)
  unfolding block_at
  block_bytes_lem q = by_small (take block_bytes (drop (block_bytes * q) s)) (small_take block_bytes (drop (block_bytes * q) s) (small_drop (block_bytes * q) s (small_by s (λ i l. bytes.each i))))

  block_ok_lem : (q : ℕ) → block_bytes * q < length s → block_ok (block_at s q) q ≡ true
  block_ok_lem q l = none_all (length s / block_bytes) 0 (λ b. block_ok (block_at s b) b) (clear s e).two q (omega arith) (omega (arith, size))

  block_is : (q : ℕ) → block_bytes * q < length s → block_at s q ≡ block_of q (drop 4 (block_at s q))
  block_is q l =
      let t = block_tests (block_at s q) q (block_ok_lem q l) in
      block_again (block_at s q) q (omega (arith, block_size_lem q l)) (block_bytes_lem q) t.0 t.1

  -- zeros before the records of a later block
  gap_zero : (q o : ℕ) → block_bytes * q < length s → 0 < q → 4 ≤ o → o < records_from → get_or s (block_bytes * q + o) 0 ≡ 0
  gap_zero q o l p a h =
      let test = (block_tests (block_at s q) q (block_ok_lem q l)).2 in
      let clean : zeros (part (block_at s q) 4 (records_from - 4)) ≡ true = sym (ap (λ (b : Bool). b || zeros (part (block_at s q) 4 (records_from - 4))) (ne_eqb q 0 (λ z. omega arith))) ∙ test in
      let place : 4 + (o - 4) ≡ o = omega arith in
      sym (block_at_lem q o (omega arith)) ∙ ap (λ (x : ℕ). get_or (block_at s q) x 0) (sym place) ∙ sym (get_or-take (records_from - 4) (drop 4 (block_at s q)) (o - 4) 0 (omega arith) ∙ get_or-drop 4 (block_at s q) (o - 4) 0)
      ∙ zeros_at (part (block_at s q) 4 (records_from - 4)) (o - 4) clean

  -- a byte of a record
  record_byte : (k i : ℕ) → i < record_bytes → get_or s (record_start k + i) 0 ≡ get_or (record_at s k) i 0
  record_byte k i h = sym (get_or-take record_bytes (drop (record_start k) s) i 0 h ∙ get_or-drop (record_start k) s i 0)

  -- zeros past the code
  past_zero : (k i : ℕ) → count_of s ≤ k → k < block_records * record_blocks (count_of s) → i < record_bytes → get_or s (record_start k + i) 0 ≡ 0
  past_zero k i l h g =
      record_byte k i g ∙ zeros_at (record_at s k) i (sym (ap (λ (b : Bool). cond b (record_ok (decode (record_at s k))) (zeros (record_at s k))) (le-ltb k (count_of s) l)) ∙ placed)
    where
      placed : cond (ltb k (count_of s)) (record_ok (decode (record_at s k))) (zeros (record_at s k)) ≡ true
      placed = unfold place_ok in none_all (block_records * record_blocks (count_of s)) 0 (place_ok s) (clear s e).four k (omega arith) (omega arith)

pub same_sheet : (s t : List ℕ) → Bytes s → Bytes t → check_sheet s ≡ Accepted → check_sheet t ≡ Accepted → length s ≡ length t
    → ((j : ℕ) → j < length s → 4 ≤ j % block_bytes → get_or s j 0 ≡ get_or t j 0) → s ≡ t
same_sheet s t bs bt es et l h =
    ext_get_or 0 s t l
    (λ j q. let place : block_bytes * (j / block_bytes) + j % block_bytes ≡ j = omega arith in
    let small : j % block_bytes < block_bytes = mod-lt j (omega arith) in
    ap (λ (x : ℕ). get_or s x 0) (sym place) ∙ sym (block_at_lem s bs es (j / block_bytes) (j % block_bytes) small) ∙ ap (λ (p : List ℕ). get_or p (j % block_bytes) 0) (same (j / block_bytes) (omega arith))
    ∙ block_at_lem t bt et (j / block_bytes) (j % block_bytes) small ∙ ap (λ (x : ℕ). get_or t x 0) place)
  where
    tails : (q : ℕ) → block_bytes * q < length s → drop 4 (block_at s q) ≡ drop 4 (block_at t q)
    tails q b =
        let ls = block_size_lem s bs es q b in
        let lt = block_size_lem t bt et q (omega arith) in
        ext_get_or 0 (drop 4 (block_at s q)) (drop 4 (block_at t q)) (omega (arith, length-drop 4 (block_at s q), length-drop 4 (block_at t q)))
        (λ i g. let o : 4 + i < block_bytes = omega (arith, length-drop 4 (block_at s q)) in
        let whole : length s ≡ block_bytes * (1 + record_blocks (count_of s)) = size s bs es in
        get_or-drop 4 (block_at s q) i 0 ∙ block_at_lem s bs es q (4 + i) o ∙ h (block_bytes * q + (4 + i)) (omega arith) (omega arith)
        ∙ sym (get_or-drop 4 (block_at t q) i 0 ∙ block_at_lem t bt et q (4 + i) o))

    same : (q : ℕ) → block_bytes * q < length s → block_at s q ≡ block_at t q
    same q b = block_is s bs es q b ∙ ap (block_of q) (tails q b) ∙ sym (block_is t bt et q (omega arith))

-- ---- the sheet that its heading and its code write

-- byte o of block q, where its records stand, is a byte of the record of an offset
record Place (q o : ℕ) : Type 0 where
  offset : ℕ
  byte : ℕ
  small : byte < record_bytes
  early : offset < block_records * q
  is : record_start offset + byte ≡ block_bytes * q + o

place_by : (q o r i : ℕ) → 0 < q → r < block_records → i < record_bytes → records_from + (record_bytes * r + i) ≡ o → Place q o
place_by q o r i p h l e =
    let half : (block_records * (q - 1) + r) / block_records ≡ q - 1 = omega arith in
    let left : (block_records * (q - 1) + r) % block_records ≡ r = omega arith in
    record { offset = block_records * (q - 1) + r; byte = i; small = l; early = omega arith; is = omega arith }

place_of : (q o : ℕ) → 0 < q → records_from ≤ o → o < block_bytes → Place q o
place_of q o p a h = place_by q o ((o - records_from) / record_bytes) ((o - records_from) % record_bytes) p (omega arith) (mod-lt (o - records_from) (omega arith)) (omega arith)

module _ (s : List ℕ) (bytes : Bytes s) (e : check_sheet s ≡ Accepted) where
  abbrev again : List ℕ
  again = sheet_of (heading_rest s) (code_of s)

  body : Body (locals_of s) (code_of s)
  body = accepted_body s bytes e

  n_is : length (code_of s) ≡ count_of s
  n_is = code_length s

  full : length (heading_rest s) ≡ block_bytes - 6
  full = length-take (block_bytes - 6) (drop 6 s) ∙ (omega (arith, length-drop 6 s, size s bytes e))

  again_accepted : check_sheet again ≡ Accepted
  again_accepted = accepted_again s (heading s bytes e) (code_of s) body

  again_bytes : Bytes again
  again_bytes =
      by_small again (sheet_small (heading_rest s) (code_of s) (small_take (block_bytes - 6) (drop 6 s) (small_drop 6 s (small_by s (λ i l. bytes.each i))))
      (λ r i. let p = in_get_d (code_of s) r nop i in subst Encodes p.2 (body.encodes p.0 p.1)))

  again_count : count_of again ≡ count_of s
  again_count = count_again (heading_rest s) (code_of s) full (omega (arith, body.few)) ∙ n_is

  again_size : length s ≡ length again
  again_size = size s bytes e ∙ sym (sheet_length (heading_rest s) (code_of s) full ∙ ap (λ (x : ℕ). block_bytes * (1 + record_blocks x)) n_is)

  -- the count, and the rest of the heading
  two_same : (a b c d : ℕ) → a < 256 → b < 256 → c < 256 → d < 256 → a + 256 * b ≡ c + 256 * d → (a ≡ c) × (b ≡ d)
  two_same a b c d ha hb hc hd q = (omega arith, omega arith)

  count_bytes : (get_or s 4 0 ≡ get_or again 4 0) × (get_or s 5 0 ≡ get_or again 5 0)
  count_bytes = two_same (get_or s 4 0) (get_or s 5 0) (get_or again 4 0) (get_or again 5 0) (bytes.each 4) (bytes.each 5) (again_bytes.each 4) (again_bytes.each 5) (unfold count_of in sym again_count)

  head_byte : (o : ℕ) → 4 ≤ o → o < block_bytes → get_or s o 0 ≡ get_or again o 0
  head_byte o a h =
      by_eq o 4 (λ q. ap (λ (x : ℕ). get_or s x 0) q ∙ count_bytes.0 ∙ sym (ap (λ (x : ℕ). get_or again x 0) q))
      (λ f. by_eq o 5 (λ q. ap (λ (x : ℕ). get_or s x 0) q ∙ count_bytes.1 ∙ sym (ap (λ (x : ℕ). get_or again x 0) q))
      (λ g. let place : 6 + (o - 6) ≡ o = omega arith in
      ap (λ (x : ℕ). get_or s x 0) (sym place)
      ∙ sym (rest_again (heading_rest s) (code_of s) full (o - 6) (omega arith) ∙ get_or-take (block_bytes - 6) (drop 6 s) (o - 6) 0 (omega arith) ∙ get_or-drop 6 s (o - 6) 0) ∙ ap (λ (x : ℕ). get_or again x 0) place))

  -- the records
  record_same : (k : ℕ) → k < count_of s → record_at s k ≡ record_at again k
  record_same k l =
      let whole = part_length s bytes e k l in
      sym (bytes_again (record_at s k) whole (by_small (record_at s k) (small_take record_bytes (drop (record_start k) s) (small_drop (record_start k) s (small_by s (λ i g. bytes.each i))))))
      ∙ ap encode (sym code_is) ∙ sym (record_part (heading_rest s) (code_of s) full k (omega (arith, n_is)))
    where
      code_is : at (code_of s) k ≡ decode (record_at s k)
      code_is = unfold instruction_at in code_at (shaped s bytes e) k l

  later_byte : (q o : ℕ) → 0 < q → block_bytes * q < length s → records_from ≤ o → o < block_bytes → get_or s (block_bytes * q + o) 0 ≡ get_or again (block_bytes * q + o) 0
  later_byte q o p l a h = go (place_of q o p a h)
    where
      go : Place q o → get_or s (block_bytes * q + o) 0 ≡ get_or again (block_bytes * q + o) 0
      go w =
          let within : w.offset < block_records * record_blocks (count_of s) = omega (arith, w.early, size s bytes e) in
          ap (λ (x : ℕ). get_or s x 0) (sym w.is)
          ∙ by_lt w.offset (count_of s)
          (λ g. record_byte s bytes e w.offset w.byte w.small ∙ ap (λ (x : List ℕ). get_or x w.byte 0) (record_same w.offset g) ∙ sym (record_byte again again_bytes again_accepted w.offset w.byte w.small))
          (λ g. past_zero s bytes e w.offset w.byte g within w.small
          ∙ sym (past_zero again again_bytes again_accepted w.offset w.byte (omega (arith, again_count)) (omega (arith, ap record_blocks again_count)) w.small))
          ∙ ap (λ (x : ℕ). get_or again x 0) w.is

  same_byte : (j : ℕ) → j < length s → 4 ≤ j % block_bytes → get_or s j 0 ≡ get_or again j 0
  same_byte j l h =
      let place : block_bytes * (j / block_bytes) + j % block_bytes ≡ j = omega arith in
      let small : j % block_bytes < block_bytes = mod-lt j (omega arith) in
      ap (λ (x : ℕ). get_or s x 0) (sym place)
      ∙ by_eq (j / block_bytes) 0 (λ q. let here : block_bytes * (j / block_bytes) + j % block_bytes ≡ j % block_bytes = omega arith in ap (λ (x : ℕ). get_or s x 0) here ∙ head_byte (j % block_bytes) h small ∙ ap (λ (x : ℕ). get_or again x 0) (sym here))
      (λ f. by_lt (j % block_bytes) records_from (λ g. gap_zero s bytes e (j / block_bytes) (j % block_bytes) (omega arith) (omega arith) h g ∙ sym (gap_zero again again_bytes again_accepted (j / block_bytes) (j % block_bytes) (omega (arith, again_size)) (omega arith) h g))
      (λ g. later_byte (j / block_bytes) (j % block_bytes) (omega arith) (omega arith) g small))
      ∙ ap (λ (x : ℕ). get_or again x 0) place

  pub whole_again : sheet_of (heading_rest s) (code_of s) ≡ s
  whole_again = sym (same_sheet s again bytes again_bytes e again_accepted again_size same_byte)
