-- Check 4 block by block: the records of one block, and the search of fifteen places, then of those behind. Assumes nothing.
use Rattle.std.specs.Prelude.{◌≡◌, refl, Bool, false, cond, ◌&&◌, List, [], ◌∷◌, ℕ, ◌+◌, ◌-◌, ◌*◌, ◌≤◌, ◌<◌, ltb, get_or, length, take, drop, None, Some}
use Rattle.std.proofs.Common.{sym, ap, ◌∙◌, arith, le-ltb, ne_eqb, get_or-take, get_or-drop}
use Rattle.std.proofs.Math.Nat.{add-sub_cancel_left}
use Rattle.base.specs.Sizes.{records_from, record_bytes, block_records}
use Rattle.base.specs.Lists.{zeros, first_bad}
use Rattle.base.specs.SearchLaws.{bad_pass, bad_here, bad_same}
use Rattle.base.specs.ListLaws.{by_test}
use Rattle.base.specs.GrowLaws.{get_d_past, get_d_within}
use Rattle.sheet.specs.Layout.{count_of, decode}
use Rattle.sheet.specs.InBlock.{record_in, handed, record_in_lem}
use Rattle.sheet.specs.Checks.{shapes, no_shape, shape_of, fits, record_ok, place_ok}
use Rattle.sheet.specs.declared.Shape.{Shape}

-- whether the record of place k in the block with bytes p is right: `place_ok` of the sheet
unfoldable pub in_block : List ℕ → ℕ → ℕ → ℕ → Bool
in_block p from n k = cond (ltb k n) (record_ok (decode (record_in p from k))) (zeros (record_in p from k))

-- the record at place k of a block, which the code hands on from its start a
pub place_in : (p : List ℕ) (from n k a : ℕ) (b : Bool) → a ≡ records_from + record_bytes * (k - from)
    → b ≡ cond (ltb k n) (record_ok (decode (take (a + record_bytes - a) (drop a p)))) (zeros (take (a + record_bytes - a) (drop a p))) → in_block p from n k ≡ b
unfolding in_block
place_in p from n k a b start e = sym (e ∙ rw (add-sub_cancel_left, start) refl)

-- the places of a block that the code hands on are those of the sheet
pub place_handed : (s : List ℕ) (n b k : ℕ) → n ≡ count_of s → block_records * b ≤ k → k < block_records * b + block_records → place_ok s k ≡ in_block (handed s b) (block_records * b) n k
unfolding in_block place_ok
place_handed s n b k e l h = rw (record_in_lem s b k l h, e) refl

-- ---- one turn of the search by blocks

handed_places : (s : List ℕ) (n b : ℕ) → n ≡ count_of s → first_bad block_records (block_records * b) (place_ok s) ≡ first_bad block_records (block_records * b) (in_block (handed s b) (block_records * b) n)
handed_places s n b e = bad_same block_records (block_records * b) _ _ (λ k l h. place_handed s n b k e l h)

-- nothing is found in block b: the search goes on behind it
pub pass_block : (s : List ℕ) (n blocks b : ℕ) → n ≡ count_of s → b < blocks
    → first_bad block_records (block_records * b) (in_block (handed s b) (block_records * b) n) ≡ None
    → first_bad (block_records * (blocks - b)) (block_records * b) (place_ok s) ≡ first_bad (block_records * (blocks - (b + 1))) (block_records * (b + 1)) (place_ok s)
pass_block s n blocks b e h f =
    let size : block_records * (blocks - b) ≡ block_records + block_records * (blocks - (b + 1)) = omega arith in
    let next : block_records * b + block_records ≡ block_records * (b + 1) = omega arith in
    ap (λ (m : ℕ). first_bad m (block_records * b) (place_ok s)) size
    ∙ bad_pass block_records (block_records * (blocks - (b + 1))) (block_records * b) (place_ok s) (handed_places s n b e ∙ f)
    ∙ ap (λ (k : ℕ). first_bad (block_records * (blocks - (b + 1))) k (place_ok s)) next

-- place p is found in block b: the search ends there
pub stop_block : (s : List ℕ) (n blocks b p : ℕ) → n ≡ count_of s → b < blocks
    → first_bad block_records (block_records * b) (in_block (handed s b) (block_records * b) n) ≡ Some p
    → first_bad (block_records * (blocks - b)) (block_records * b) (place_ok s) ≡ Some p
stop_block s n blocks b p e h f =
    let size : block_records * (blocks - b) ≡ block_records + block_records * (blocks - (b + 1)) = omega arith in
    ap (λ (m : ℕ). first_bad m (block_records * b) (place_ok s)) size
    ∙ bad_here block_records (block_records * (blocks - (b + 1))) (block_records * b) p (place_ok s) (handed_places s n b e ∙ f)

-- ---- the row of a record's kind

-- the first byte of the record that the code hands on from its start a
kind_at : (p : List ℕ) (a n : ℕ) → 0 < n → get_or (take n (drop a p)) 0 0 ≡ get_or p a 0
kind_at p a n h = let same : a + 0 ≡ a = omega arith in get_or-take n (drop a p) 0 0 h ∙ get_or-drop a p 0 0 ∙ ap (λ (i : ℕ). get_or p i 0) same

-- the row that the code reads out of the table
pub row_in : (rows : List Shape) (p : List ℕ) (a kind : ℕ) (d : Shape) → rows ≡ shapes → kind ≡ get_or p a 0 → kind < length shapes → get_or rows kind d ≡ shape_of (get_or (take (a + record_bytes - a) (drop a p)) 0 0)
row_in rows p a kind d t e h =
    ap (λ (xs : List Shape). get_or xs kind d) t ∙ get_d_within shapes kind d no_shape h
    ∙ ap shape_of (e ∙ sym (kind_at p a (a + record_bytes - a) (omega arith)))

no_record : (q : List ℕ) → length shapes ≤ get_or q 0 0 → record_ok (decode q) ≡ false
unfolding record_ok decode fits
no_record q h =
    ap (λ (f : Shape). fits f (decode q)) (get_d_past shapes (get_or q 0 0) no_shape h) ∙ rw (le-ltb (decode q).sub 0 (omega arith)) refl

no_zeros : (q : List ℕ) → length shapes ≤ get_or q 0 0 → zeros q ≡ false
no_zeros [] h = absurd (omega arith)
no_zeros (x ∷ xs) h = ap (λ (b : Bool). b && zeros xs) (ne_eqb x 0 (λ e. omega arith))

-- where the first byte is no kind, a record is neither an instruction nor zeros
pub no_kind : (p : List ℕ) (from n k a kind : ℕ) → a ≡ records_from + record_bytes * (k - from) → kind ≡ get_or p a 0 → length shapes ≤ kind → in_block p from n k ≡ false
unfolding in_block
no_kind p from n k a kind start e h =
    let first : kind ≡ get_or (record_in p from k) 0 0 = e ∙ ap (λ (i : ℕ). get_or p i 0) start ∙ sym (kind_at p (records_from + record_bytes * (k - from)) record_bytes (omega arith)) in
    by_test (λ b. cond b (record_ok (decode (record_in p from k))) (zeros (record_in p from k)) ≡ false) (ltb k n)
    (λ t. no_record (record_in p from k) (omega arith)) (λ t. no_zeros (record_in p from k) (omega arith))
