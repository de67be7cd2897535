-- Sheets laid end to end are cut as they were laid: those that the checks accept, and all others of whose blocks the first alone is numbered 0. Assumes nothing.
use Rattle.std.specs.Prelude.{◌≡◌, Bool, true, false, cond, ◌&&◌, drop, refl, List, [], ◌∷◌, ◌++◌, ℕ, zero, suc, ◌+◌, ◌-◌, ◌*◌, ◌≤◌, ◌<◌, eqb, length, get_or, take}
use Rattle.std.proofs.Common.{sym, ap, ap₂, ◌∙◌, add-zero, zero-add, get_or-append-add, append-nil, arith, ne_eqb, eqb-true, length-append, get_or-take, get_or-drop}
use Rattle.std.proofs.Math.ListN.{get_or-append, get_or-eq_default}
use Rattle.base.specs.Sizes.{block_bytes}
use Rattle.base.specs.Lists.{tab, keep, joins}
use Rattle.base.specs.Bytes.{part, u16_at}
use Rattle.base.specs.Refusals.{Accepted}
use Rattle.base.specs.ListLaws.{by_eq, and-true, get_d_tab, length_tab, tab_snoc}
use Rattle.base.specs.SearchLaws.{none_all}
use Rattle.base.specs.GrowLaws.{keep_agree}
use Rattle.base.specs.JoinLaws.{joins_part}
use Rattle.sheet.specs.Layout.{block_at, check_of}
use Rattle.sheet.specs.Checks.{block_ok, check_sheet}
use Rattle.sheet.specs.CheckLaws.{clear}
use Rattle.sheet.specs.FormLaws.{length_sized}
use Rattle.class_set.specs.ClassSet.{blocks_in, starts_at, starts_of, sheets_in, start_of, sheet_at}
use Rattle.class_set.specs.CutLaws.{starts_kept}
use Rattle.class_set.specs.ClassMeaning.{OneSheet, CutAsLaid}

-- ---- `keep` in two parts

keep_append : (a b k : ℕ) (f : ℕ → Bool) → keep (a + b) k f ≡ keep a k f ++ keep b (k + a) f
unfolding keep
keep_append zero b k f =
    let left : 0 + b ≡ b = omega arith in
    let from : k ≡ k + 0 = omega arith in
    ap₂ (λ (n j : ℕ). keep n j f) left from
keep_append (suc a) b k f =
    let size : suc a + b ≡ suc (a + b) = omega arith in
    let from : suc k + a ≡ k + suc a = omega arith in
    ap (λ (n : ℕ). keep n k f) size
    ∙ either (f k) (keep_append a b (suc k) f ∙ ap (λ (j : ℕ). keep a (suc k) f ++ keep b j f) from)
  where
    either : (t : Bool) → keep (a + b) (suc k) f ≡ keep a (suc k) f ++ keep b (k + suc a) f
        → cond t (k ∷ keep (a + b) (suc k) f) (keep (a + b) (suc k) f) ≡ cond t (k ∷ keep a (suc k) f) (keep a (suc k) f) ++ keep b (k + suc a) f
    either true e = ap (λ (l : List ℕ). k ∷ l) e
    either false e = e

-- none passes
keep_nothing : (n k : ℕ) (f : ℕ → Bool) → ((i : ℕ) → k ≤ i → i < k + n → f i ≡ false) → keep n k f ≡ []
unfolding keep
keep_nothing zero k f h = refl
keep_nothing (suc n) k f h =
    ap (λ (t : Bool). cond t (k ∷ keep n (suc k) f) (keep n (suc k) f)) (h k (omega arith) (omega arith)) ∙ keep_nothing n (suc k) f (λ i l g. h i (omega arith) (omega arith))

-- only the first
keep_one : (n k : ℕ) (f : ℕ → Bool) → 0 < n → f k ≡ true → ((i : ℕ) → k < i → i < k + n → f i ≡ false) → keep n k f ≡ k ∷ []
unfolding keep
keep_one zero k f h e later = absurd (omega arith)
keep_one (suc n) k f h e later =
    ap (λ (t : Bool). cond t (k ∷ keep n (suc k) f) (keep n (suc k) f)) e ∙ ap (λ (l : List ℕ). k ∷ l) (keep_nothing n (suc k) f (λ i l g. later i (omega arith) (omega arith)))

-- ---- one sheet more behind whole blocks

module _ (a x : List ℕ) (n : ℕ) (size : length a ≡ block_bytes * n) where
  start_in : (b : ℕ) → b < n → starts_at (a ++ x) b ≡ starts_at a b
  unfolding starts_at
  start_in b h =
      ap₂ (λ (l g : ℕ). eqb (l + 256 * g) 0) (get_or-append a x 0 (block_bytes * b) (omega arith)) (get_or-append a x 0 (block_bytes * b + 1) (omega arith))

  start_behind : (b : ℕ) → starts_at (a ++ x) (n + b) ≡ starts_at x b
  unfolding starts_at
  start_behind b =
      let low : block_bytes * (n + b) ≡ length a + block_bytes * b = omega arith in
      let high : block_bytes * (n + b) + 1 ≡ length a + (block_bytes * b + 1) = omega arith in
      ap₂ (λ (l g : ℕ). eqb (get_or (a ++ x) l 0 + 256 * get_or (a ++ x) g 0) 0) low high
      ∙ ap₂ (λ (l g : ℕ). eqb (l + 256 * g) 0) (get_or-append-add a x (block_bytes * b) 0) (get_or-append-add a x (block_bytes * b + 1) 0)

  starts_more : OneSheet x → starts_of (a ++ x) ≡ starts_of a ++ (n ∷ [])
  starts_more one =
      let all : blocks_in (a ++ x) ≡ n + one.blocks = omega (arith, length-append a x, one.size) in
      let old : blocks_in a ≡ n = omega arith in
      starts_kept (a ++ x) ∙ ap (λ (c : ℕ). keep c 0 (starts_at (a ++ x))) all ∙ keep_append n one.blocks 0 (starts_at (a ++ x))
      ∙ ap₂ ◌++◌ (keep_agree n 0 (starts_at (a ++ x)) (starts_at a) (λ i l h. start_in i (omega arith)) ∙ ap (λ (c : ℕ). keep c 0 (starts_at a)) (sym old) ∙ sym (starts_kept a))
      (ap (λ (k : ℕ). keep one.blocks k (starts_at (a ++ x))) (zero-add n)
      ∙ keep_one one.blocks n (starts_at (a ++ x)) one.some (ap (starts_at (a ++ x)) (omega arith) ∙ start_behind 0 ∙ one.first)
      (λ i l h. let place : i ≡ n + (i - n) = omega arith in ap (starts_at (a ++ x)) place ∙ start_behind (i - n) ∙ one.later (i - n) (omega arith) (omega arith)))

-- ---- all of them

module _ (f : ℕ → List ℕ) where
  -- the blocks in front of sheet k
  abbrev front : ℕ → ℕ
  front k = blocks_in (joins k f)

  pub record Laid (m : ℕ) : Type 0 where
    pub size : length (joins m f) ≡ block_bytes * front m
    pub starts : starts_of (joins m f) ≡ tab m 0 front

  laid : (m : ℕ) → ((k : ℕ) → k < m → OneSheet (f k)) → Laid m
  unfolding joins starts_of tab
  laid zero one = record { size = refl; starts = refl }
  laid (suc m) one =
      let w = laid m (λ k h. one k (omega arith)) in
      let o = one m (omega arith) in
      record {
        size = omega (arith, length-append (joins m f) (f m), o.size, w.size);
        starts = starts_more (joins m f) (f m) (front m) w.size o ∙ ap (λ (l : List ℕ). l ++ (front m ∷ [])) w.starts ∙ sym (tab_snoc m 0 front ∙ ap (λ (k : ℕ). tab m 0 front ++ (front k ∷ [])) (zero-add m));
      }

  module _ (m : ℕ) (one : (k : ℕ) → k < m → OneSheet (f k)) where
    all_laid : Laid m
    all_laid = laid m one

    is_count : sheets_in (joins m f) ≡ m
    is_count = ap length all_laid.starts ∙ length_tab m 0 front

    is_start : (k : ℕ) → k ≤ m → start_of (joins m f) k ≡ front k
    is_start k h =
        by_eq k m
        (λ e. get_or-eq_default (starts_of (joins m f)) (front m) {n = k} (omega (arith, is_count)) ∙ ap front (sym e))
        (λ g. ap (λ (l : List ℕ). get_or l k (front m)) all_laid.starts ∙ get_d_tab m 0 k front (front m) (omega arith) ∙ ap front (zero-add k))

    is_sheet : (k : ℕ) → k < m → sheet_at (joins m f) k ≡ f k
    unfolding sheet_at
    is_sheet k h =
        let low = laid k (λ j l. one j (omega arith)) in
        let high = laid (suc k) (λ j l. one j (omega arith)) in
        let start : block_bytes * start_of (joins m f) k ≡ length (joins k f) = omega (arith, low.size, is_start k (omega arith)) in
        let size : block_bytes * (start_of (joins m f) (suc k) - start_of (joins m f) k) ≡ length (f k) = omega (arith, low.size, high.size, is_start k (omega arith), is_start (suc k) h, more k) in
        ap₂ (λ (p n : ℕ). take n (drop p (joins m f))) start size ∙ ap (λ (l : List ℕ). take (length (f k)) (drop (length (joins k f)) l)) (sym (append-nil (joins m f))) ∙ joins_part m k f [] h
      where
        more : (k : ℕ) → length (joins (suc k) f) ≡ length (joins k f) + length (f k)
        more k = unfold joins in length-append (joins k f) (f k)

    -- each is cut as it was laid
    pub cut_as_laid : CutAsLaid m f
    cut_as_laid = record { count = is_count; sheet = is_sheet }

-- ---- an accepted sheet is one

module _ (x : List ℕ) (e : check_sheet x ≡ Accepted) where
  number_of : (b : ℕ) → block_ok (block_at x b) b ≡ true → u16_at x (block_bytes * b) ≡ b
  unfolding block_ok block_at
  number_of b t =
      let at : (i : ℕ) → i < 2 → get_or (part x (block_bytes * b) block_bytes) i 0 ≡ get_or x (block_bytes * b + i) 0 =
      λ i l. get_or-take block_bytes (drop (block_bytes * b) x) i 0 (omega arith) ∙ get_or-drop (block_bytes * b) x i 0 in
      let p = block_at x b in
      let r = and-true (eqb (u16_at p 0) b) (eqb (u16_at p 2) (check_of p)) (and-true (eqb (u16_at p 0) b && eqb (u16_at p 2) (check_of p)) _ t).0 in
      omega (arith, at 0 (omega arith), ap (λ (i : ℕ). get_or x i 0) (add-zero (block_bytes * b)), at 1 (omega arith), eqb-true (u16_at p 0) b r.0)

  numbered : (b : ℕ) → b < blocks_in x → starts_at x b ≡ eqb b 0
  unfolding starts_at
  numbered b h = ap (λ (n : ℕ). eqb n 0) (number_of b (none_all (blocks_in x) 0 _ (clear x e).two b (omega arith) (omega arith)))

  pub accepted_one : OneSheet x
  accepted_one =
      let z = length_sized (length x) (clear x e).one in
      record { blocks = blocks_in x; size = omega (arith, z.blocks); some = omega (arith, z.low); first = numbered 0 (omega (arith, z.low)); later = λ b h l. numbered b l ∙ ne_eqb b 0 (λ q. omega arith) }
