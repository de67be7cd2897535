-- Where the sheets of a class set start, as the code finds it, and that each is a part of it. Assumes nothing.
use Rattle.std.specs.Prelude.{◌≡◌, refl, Bool, true, false, cond, List, [], ◌∷◌, length, ℕ, zero, suc, ◌+◌, ◌-◌, ◌*◌, ◌≤◌, ◌<◌, get_or, Some}
use Rattle.std.specs.List.{filter, find, range_with_len}
use Rattle.std.specs.Option.{unwrap_or}
use Rattle.std.proofs.Common.{sym, ◌∙◌, subst, add-one, ap, ap₂, arith}
use mathlib.Core.List.{Memᴰ}
use Rattle.base.specs.Sizes.{block_bytes}
use Rattle.base.specs.Lists.{keep}
use Rattle.base.specs.Bytes.{part}
use Rattle.base.specs.ListLaws.{Kept, in_keep, get_d_in}
use Rattle.base.specs.SearchLaws.{keep_here, keep_pass, keep_end, keep_next}
use Rattle.class_set.specs.ClassSet.{blocks_in, starts_at, starts_of, sheets_in, start_of, sheet_at}

-- ---- the library's words of a range, and `keep`

kept_all : (n k : ℕ) (f : ℕ → Bool) → filter f (range_with_len k n) ≡ keep n k f
unfolding keep
kept_all zero k f = refl
kept_all (suc n) k f =
    let more = λ (xs : List ℕ). cond (f k) (k ∷ xs) xs in
    ap (λ (j : ℕ). more (filter f (range_with_len j n))) (add-one k) ∙ ap more (kept_all n (suc k) f)

kept_first : (n k d : ℕ) (f : ℕ → Bool) → unwrap_or (find f (range_with_len k n)) d ≡ get_or (keep n k f) 0 d
unfolding keep
kept_first zero k d f = refl
kept_first (suc n) k d f = ap (λ (j : ℕ). unwrap_or (cond (f k) (Some k) (find f (range_with_len j n))) d) (add-one k) ∙ either (f k) (kept_first n (suc k) d f)
  where
    either : (t : Bool) → unwrap_or (find f (range_with_len (suc k) n)) d ≡ get_or (keep n (suc k) f) 0 d
        → unwrap_or (cond t (Some k) (find f (range_with_len (suc k) n))) d ≡ get_or (cond t (k ∷ keep n (suc k) f) (keep n (suc k) f)) 0 d
    either true q = refl
    either false q = q

module _ (s : List ℕ) where
  pub starts_kept : starts_of s ≡ keep (blocks_in s) 0 (starts_at s)
  unfolding starts_of
  starts_kept = kept_all (blocks_in s) 0 (starts_at s)

  -- ---- the starts from block b on

  abbrev pub starts_from : ℕ → List ℕ
  starts_from b = keep (blocks_in s - b) b (starts_at s)

  -- the first of them, or the end
  abbrev pub first_from : ℕ → ℕ
  first_from b = get_or (starts_from b) 0 (blocks_in s)

  pub from_start : starts_of s ≡ starts_from 0
  from_start = let size : blocks_in s ≡ blocks_in s - 0 = omega arith in starts_kept ∙ ap (λ (n : ℕ). keep n 0 (starts_at s)) size

  pub found : (b : ℕ) → unwrap_or (find (starts_at s) (range_with_len b (blocks_in s - b))) (blocks_in s) ≡ first_from b
  found b = kept_first (blocks_in s - b) b (blocks_in s) (starts_at s)

  -- block b is a start: one more than from the next block on, and the first
  pub count_here : (b : ℕ) → b < blocks_in s → starts_at s b ≡ true → length (starts_from b) ≡ 1 + length (starts_from (b + 1))
  count_here b h e = ap length (keep_here (blocks_in s) b (starts_at s) h e) ∙ (omega arith)

  pub first_here : (b : ℕ) → b < blocks_in s → starts_at s b ≡ true → first_from b ≡ b
  first_here b h e = ap (λ (l : List ℕ). get_or l 0 (blocks_in s)) (keep_here (blocks_in s) b (starts_at s) h e)

  -- it is none; and behind the last block there are none
  pub starts_pass : (b : ℕ) → b < blocks_in s → starts_at s b ≡ false → starts_from b ≡ starts_from (b + 1)
  starts_pass b h e = keep_pass (blocks_in s) b (starts_at s) h e

  pub starts_end : (b : ℕ) → blocks_in s ≤ b → starts_from b ≡ []
  starts_end b h = keep_end (blocks_in s) b (starts_at s) h

  -- ---- sheet after sheet

  kept_at : (k : ℕ) → k < sheets_in s → Kept (blocks_in s) 0 (start_of s k) (starts_at s)
  kept_at k h = in_keep (blocks_in s) 0 (start_of s k) (starts_at s) (subst (Memᴰ (start_of s k)) starts_kept (get_d_in (starts_of s) k (blocks_in s) h))

  pub start_inside : (k : ℕ) → k < sheets_in s → start_of s k < blocks_in s
  start_inside k h = omega (arith, (kept_at k h).high)

  pub start_first : start_of s 0 ≡ first_from 0
  start_first = ap (λ (l : List ℕ). get_or l 0 (blocks_in s)) from_start

  pub start_next : (k : ℕ) → k < sheets_in s → start_of s (suc k) ≡ first_from (start_of s k + 1)
  start_next k h =
      let one : 0 + blocks_in s - suc (start_of s k) ≡ blocks_in s - (start_of s k + 1) = omega arith in
      subst (λ (xs : List ℕ). k < length xs → get_or xs (suc k) (blocks_in s) ≡ get_or (keep (0 + blocks_in s - suc (get_or xs k (blocks_in s))) (suc (get_or xs k (blocks_in s))) (starts_at s)) 0 (blocks_in s)) (sym starts_kept) (keep_next (blocks_in s) 0 (blocks_in s) (starts_at s) k) h ∙ ap₂ (λ (n j : ℕ). get_or (keep n j (starts_at s)) 0 (blocks_in s)) one (sym (add-one (start_of s k)))

  -- ---- a sheet is the part of the class set from its start to the next one's

  pub sheet_part : (k start next : ℕ) → start ≡ start_of s k → next ≡ start_of s (suc k) → part s (block_bytes * start) (block_bytes * next - block_bytes * start) ≡ sheet_at s k
  unfolding sheet_at
  sheet_part k start next e q =
      let size : block_bytes * next - block_bytes * start ≡ block_bytes * (start_of s (suc k) - start_of s k) = omega arith in
      ap₂ (λ (a n : ℕ). part s (block_bytes * a) n) e size
