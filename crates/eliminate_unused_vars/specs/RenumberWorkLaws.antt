-- What the writers of a renumbered sheet leave: a set under the new numbers, number by number, and the new heading. Assumes nothing.
use Rattle.std.specs.Prelude.{◌≡◌, refl, Bool, true, false, cond, List, [], ◌∷◌, ◌++◌, ℕ, ◌+◌, ◌-◌, ◌^◌, ◌≤◌, get_or, length, take, drop}
use Rattle.std.proofs.Common.{sym, ap, ap₂, ◌∙◌, subst, append-nil, append_assoc, zero-add, add-one, arith, length-append, length-drop, take-append-drop, drop_at, take_all, drop-drop, length-take-le}
use Rattle.base.specs.Sizes.{set_bytes, refs_at, block_bytes}
use Rattle.base.specs.Lists.{keep}
use Rattle.base.specs.Bytes.{number, part, bytes_of}
use Rattle.base.specs.GrowLaws.{keep_snoc}
use Rattle.base.specs.PartLaws.{front_part}
use Rattle.base.specs.WriteLaws.{part_more}
use Rattle.dataflow_domains.specs.Mask.{holds, union, set_of}
use Rattle.dataflow_domains.specs.ByteLaws.{bytes_length}
use Rattle.sheet.specs.Layout.{heading_rest, refs_of, sheet_of}
use Rattle.sheet_writer.specs.Written.{SheetWritten}
use Rattle.livevar_analysis.specs.DecodeLaws.{set_of_end}
use Rattle.eliminate_unused_vars.specs.Remap.{remap_set}
use Rattle.eliminate_unused_vars.specs.Renumber.{staying_in, renumbered_code, rest_with, renumbered_rest, renumbered_sheet}
use Rattle.eliminate_unused_vars.specs.RenumberedHeadingLaws.{behind_refs}

-- ---- a set under the new numbers

-- the first i numbers of the locals that stay
abbrev pub first_set : List ℕ → ℕ → ℕ → ℕ
first_set stay m i = set_of (keep i 0 (λ j. holds m (get_or stay j 0)))

pub set_none : (stay : List ℕ) (m : ℕ) → 0 ≡ first_set stay m 0
unfolding set_of keep
set_none stay m = refl

module _ (stay : List ℕ) (m i : ℕ) where
  next : (b : Bool) → holds m (get_or stay i 0) ≡ b → keep (i + 1) 0 (λ j. holds m (get_or stay j 0)) ≡ keep i 0 (λ j. holds m (get_or stay j 0)) ++ cond b (i ∷ []) []
  next b e =
      let test : ℕ → Bool = λ j. holds m (get_or stay j 0) in
      ap (λ (n : ℕ). keep n 0 test) (add-one i) ∙ keep_snoc i 0 test
      ∙ ap (λ (n : ℕ). keep i 0 test ++ cond (test n) (n ∷ []) []) (zero-add i) ∙ ap (λ (t : Bool). keep i 0 test ++ cond t (i ∷ []) []) e

  pub set_put : holds m (get_or stay i 0) ≡ true → union (first_set stay m i) (2 ^ i) ≡ first_set stay m (i + 1)
  set_put e = sym (ap set_of (next true e) ∙ set_of_end (keep i 0 (λ j. holds m (get_or stay j 0))) i)

  pub set_kept : holds m (get_or stay i 0) ≡ false → first_set stay m i ≡ first_set stay m (i + 1)
  set_kept e = sym (ap set_of (next false e ∙ append-nil (keep i 0 (λ j. holds m (get_or stay j 0)))))

pub set_all : (stay : List ℕ) (m i : ℕ) → i ≡ length stay → first_set stay m i ≡ remap_set stay m
unfolding remap_set
set_all stay m i e = ap (first_set stay m) e

-- ---- the heading

-- the number of locals and the reference mask are put into a copy of the heading
pub heading_put : (s h two refs : List ℕ) (n m : ℕ) → block_bytes ≤ length s → h ≡ take block_bytes (drop 0 s) → two ≡ bytes_of 2 n → refs ≡ bytes_of set_bytes m
    → heading_rest (take refs_at (take 6 h ++ (two ++ drop 2 (drop 6 h))) ++ (refs ++ drop set_bytes (drop refs_at (take 6 h ++ (two ++ drop 2 (drop 6 h)))))) ≡ rest_with s n m
heading_put s h two refs n m long eh et er =
    ap (λ (x : List ℕ). take (block_bytes - 6) (drop 6 x)) all
    ∙ ap (take (block_bytes - 6)) (drop_at (take 6 h) (two ++ part h 8 8 ++ refs ++ drop behind_refs h) 6 six)
    ∙ take_all (block_bytes - 6) (two ++ part h 8 8 ++ refs ++ drop behind_refs h) fits
    ∙ ap₂ (λ (x y : List ℕ). x ++ part h 8 8 ++ y ++ drop behind_refs h) et er
    ∙ ap₂ (λ (x y : List ℕ). bytes_of 2 n ++ x ++ bytes_of set_bytes m ++ y) mid end
  where
    whole : length h ≡ block_bytes
    whole = ap length eh ∙ length-take-le block_bytes s long

    six : length (take 6 h) ≡ 6
    six = length-take-le 6 h (omega (arith, whole))

    size : length two ≡ 2
    size = ap length et ∙ bytes_length 2 n

    wide : length refs ≡ set_bytes
    wide = ap length er ∙ bytes_length set_bytes m

    eight : length (part h 8 8) ≡ 8
    eight = length-take-le 8 (drop 8 h) (omega (arith, whole, length-drop 8 h))

    fits : length (two ++ part h 8 8 ++ refs ++ drop behind_refs h) ≤ block_bytes - 6
    fits = omega (arith, whole, size, wide, eight, length-append two (part h 8 8), length-append (two ++ part h 8 8) refs, length-append (two ++ part h 8 8 ++ refs) (drop behind_refs h), length-drop behind_refs h)

    mid : part h 8 8 ≡ part s 8 8
    mid = ap (λ (x : List ℕ). part x 8 8) eh ∙ front_part 0 8 8 block_bytes s (omega arith)

    end : drop behind_refs h ≡ part s behind_refs (block_bytes - behind_refs)
    end =
        sym (take_all (block_bytes - behind_refs) (drop behind_refs h) (omega (arith, whole, length-drop behind_refs h)))
        ∙ ap (λ (x : List ℕ). part x behind_refs (block_bytes - behind_refs)) eh ∙ front_part 0 behind_refs (block_bytes - behind_refs) block_bytes s (omega arith)

    tail : drop 2 (drop 6 h) ≡ part h 8 8 ++ drop refs_at h
    tail = drop-drop 2 6 h ∙ sym (take-append-drop 8 (drop 8 h)) ∙ ap (λ (x : List ℕ). part h 8 8 ++ x) (drop-drop 8 8 h)

    first : take 6 h ++ (two ++ drop 2 (drop 6 h)) ≡ take 6 h ++ two ++ part h 8 8 ++ drop refs_at h
    first = ap (λ (x : List ℕ). take 6 h ++ (two ++ x)) tail ∙ simp append_assoc

    all : take refs_at (take 6 h ++ (two ++ drop 2 (drop 6 h))) ++ (refs ++ drop set_bytes (drop refs_at (take 6 h ++ (two ++ drop 2 (drop 6 h))))) ≡ take 6 h ++ (two ++ part h 8 8 ++ refs ++ drop behind_refs h)
    all =
        ap (λ (x : List ℕ). take refs_at x ++ (refs ++ drop set_bytes (drop refs_at x))) first
        ∙ part_more (take 6 h ++ two ++ part h 8 8) refs h refs_at set_bytes (omega (arith, six, size, eight, length-append (take 6 h) two, length-append (take 6 h ++ two) (part h 8 8)))
        ∙ simp append_assoc

pub rest_is : (s : List ℕ) (n m x : ℕ) → n ≡ length (staying_in s) → m ≡ remap_set (staying_in s) x → x ≡ number (part s refs_at set_bytes) → rest_with s n m ≡ renumbered_rest s
unfolding renumbered_rest refs_of
rest_is s n m x en em ex = rw (en, em, ex)

-- ---- the sheet

pub new_written : (s head before : List ℕ) (r : ℕ) (after : List ℕ) → heading_rest head ≡ renumbered_rest s → SheetWritten (sheet_of (heading_rest head) (renumbered_code s)) before r after → SheetWritten (renumbered_sheet s) before r after
new_written s head before r after e w = subst (λ (x : List ℕ). SheetWritten (sheet_of x (renumbered_code s)) before r after) e w
