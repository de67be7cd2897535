-- The numbers that come next, by the table of what edges lose: bounds, what the blocks use up, and when they fit. Assumes nothing.
use Rattle.std.specs.Prelude.{◌≡◌, Bool, true, false, not, ◌&&◌, eqb, leb, ltb, get_or, refl, cond, List, [], ◌∷◌, ℕ, zero, suc, ◌+◌, ◌-◌, ◌*◌, ◌^◌, ◌≤◌, ◌<◌, length}
use Rattle.std.proofs.Common.{sym, ap, ap₂, ◌∙◌, subst, ⊎_elim, add-zero, add-one, eqb-true, leb-true, lt-ltb, arith, length-append}
use Rattle.std.specs.Int.Count.{ones}
use Rattle.base.specs.Sizes.{record_bytes, max_locals, max_number, max_instructions}
use Rattle.base.specs.Lists.{keep, count, joins}
use Rattle.base.specs.ListLaws.{by_test, by_eq, or-true, and-true}
use Rattle.base.specs.JoinLaws.{joins_length, total_same, count_total, count_in, count_out, count_le}
use Rattle.dataflow_domains.specs.Mask.{holds}
use Rattle.dataflow_domains.specs.MaskLaws.{sub_empty, ones_zero, ones_same}
use Rattle.dataflow_domains.specs.Members.{members}
use Rattle.dataflow_domains.specs.MemberLaws.{walk_end, members_length}
use Rattle.stackless_bytecode.specs.declared.Bytecode.{Bytecode}
use Rattle.livevar_transform.specs.declared.plan.Fate.{Fate}
use Rattle.livevar_transform.specs.declared.plan.Next.{Next}
use Rattle.livevar_transform.specs.declared.plan.Counts.{Counts}
use Rattle.livevar_transform.specs.Rewrite.{block_size, target_of}
use Rattle.livevar_transform.specs.PieceLaws.{size_is, block_size_lem}
use Rattle.livevar_transform.specs.Plan.{fate_at, goes, lost_at, past, numbers_at, NextBelow, next_room, LowNext, Counted, stands_at, kept_at, added_at, kept_by, added_by, code_by, NewBlockRoom, BlockFits, LabelsFit, Fitting}
use Rattle.livevar_transform.specs.RewriteWork.{fit_between}

-- ---- the elements of a set, and their number

pub some_ones : (m : ℕ) → (m ≡ 0 → ⊥) → 0 < ones m
some_ones m f = by_eq (ones m) 0 (λ e. absurd (f (sym (ones_same m 0 (sub_empty m) (omega (arith, ones_zero)))))) (λ g. omega arith)

pub none_lost : (m : ℕ) → m ≡ 0 → members max_locals m ≡ []
none_lost m e = ap (members max_locals) e ∙ walk_end max_locals 0

pub some_lost : (m : ℕ) → (m ≡ 0 → ⊥) → m < 2 ^ max_locals → 0 < length (members max_locals m)
some_lost m f h = omega (arith, members_length max_locals m h, some_ones m f)

-- how many instructions a block has
pub added_is : (m : ℕ) → (m ≡ 0 → ⊥) → m < 2 ^ max_locals → block_size (members max_locals m) ≡ ones m + 2
added_is m f h = omega (arith, members_length max_locals m h, size_is (members max_locals m) (some_lost m f h))

keep_le : (n k : ℕ) (f : ℕ → Bool) → length (keep n k f) ≤ n
unfolding keep
keep_le zero k f = omega arith
keep_le (suc n) k f =
    by_test (λ b. length (cond b (k ∷ keep n (suc k) f) (keep n (suc k) f)) ≤ suc n) (f k) (λ e. omega (arith, keep_le n (suc k) f)) (λ e. omega (arith, keep_le n (suc k) f))

size_le : (xs : List ℕ) → block_size xs ≤ length xs + 2
unfolding block_size
size_le [] = omega arith
size_le (x ∷ xs) = omega arith

-- ---- past an edge

next_path : {a b c d : ℕ} → a ≡ c → b ≡ d → ◌≡◌ {A = Next} (record { label = a; attr = b }) (record { label = c; attr = d })
next_path p q = λ i. record { label = p i; attr = q i }

pub past_none : (x : Next) (m : ℕ) → m ≡ 0 → x ≡ past x (members max_locals m)
unfolding block_size
past_none x m e = next_path (sym (add-zero x.label)) (sym (add-zero x.attr)) ∙ ap (past x) (sym (none_lost m e))

pub past_some : (x : Next) (m c l a : ℕ) → (m ≡ 0 → ⊥) → m < 2 ^ max_locals → c ≡ ones m → l ≡ x.label + 1 → a ≡ x.attr + c + 2 → record { label = l; attr = a } ≡ past x (members max_locals m)
past_some x m c l a f h e p q =
    next_path (p ∙ ap (λ (b : Bool). x.label + cond b 1 0) (sym (lt-ltb 0 (length (members max_locals m)) (some_lost m f h)))) (omega (arith, added_is m f h))

past_small : (x : Next) (m : ℕ) → ((past x (members max_locals m)).label ≤ x.label + 1) × ((past x (members max_locals m)).attr ≤ x.attr + (max_locals + 2))
past_small x m = (
  omega (arith, by_test (λ b. cond b 1 0 ≤ 1) (ltb 0 (length (members max_locals m))) (λ t. omega arith) (λ t. omega arith)),
  omega (arith, size_le (members max_locals m), keep_le max_locals 0 (holds m)),
)

pub past_below : (x y : Next) (m : ℕ) → NextBelow next_room x → y ≡ past x (members max_locals m) → NextBelow (2 * next_room) y
past_below x y m h e = subst (NextBelow (2 * next_room)) (sym e) (record { label = omega (arith, h.label, (past_small x m).0); attr = omega (arith, h.attr, (past_small x m).1) })

pub wide_below : (x : Next) → NextBelow next_room x → NextBelow (2 * next_room) x
wide_below x h = record { label = omega (arith, h.label); attr = omega (arith, h.attr) }

pub past_two : (lost : List ℕ) (k a b : ℕ) (x y z : Next) → y ≡ past x (members max_locals a) → z ≡ past y (members max_locals b) → a ≡ get_or lost (2 * k) 0 → b ≡ get_or lost (2 * k + 1) 0
    → z ≡ past (past x (lost_at lost (2 * k))) (lost_at lost (2 * k + 1))
past_two lost k a b x y z ey ez ea eb = ez ∙ ap₂ (λ (w : Next) (m : ℕ). past w (members max_locals m)) (ey ∙ ap (λ (m : ℕ). past x (members max_locals m)) ea) eb

-- the labels of the edges of offset k fit
module _ (lost : List ℕ) (k a : ℕ) (x : Next) (f : LabelsFit lost k x) (ea : a ≡ get_or lost (2 * k) 0) where
  pub label_one : 0 < length (members max_locals a) → x.label ≤ max_number
  label_one w = f.one (subst (λ (m : ℕ). 0 < length (members max_locals m)) ea w)

  pub label_two : (b : ℕ) (y : Next) → b ≡ get_or lost (2 * k + 1) 0 → y ≡ past x (members max_locals a) → 0 < length (members max_locals b) → y.label ≤ max_number
  label_two b y eb ey w =
      let same : y.label ≡ (past x (lost_at lost (2 * k))).label = ap (λ (z : Next). z.label) (ey ∙ ap (λ (m : ℕ). past x (members max_locals m)) ea) in
      omega (arith, f.two (subst (λ (m : ℕ). 0 < length (members max_locals m)) eb w))

-- ---- edge by edge

pub numbers_first : (x : Next) (lost : List ℕ) → x ≡ numbers_at x lost (2 * 0)
unfolding numbers_at
numbers_first x lost = refl

module _ (first : Next) (lost : List ℕ) where
  pub numbers_next : (e : ℕ) (x y : Next) → x ≡ numbers_at first lost e → y ≡ past x (lost_at lost e) → y ≡ numbers_at first lost (e + 1)
  unfolding numbers_at
  numbers_next e x y p q = q ∙ ap (λ (z : Next). past z (lost_at lost e)) p ∙ ap (numbers_at first lost) (sym (add-one e))

  pub numbers_both : (k : ℕ) (x y : Next) → x ≡ numbers_at first lost (2 * k) → y ≡ past (past x (lost_at lost (2 * k))) (lost_at lost (2 * k + 1)) → y ≡ numbers_at first lost (2 * (k + 1))
  numbers_both k x y p q =
      let two : 2 * k + 1 + 1 ≡ 2 * (k + 1) = omega arith in
      numbers_next (2 * k + 1) (past x (lost_at lost (2 * k))) y (numbers_next (2 * k) x (past x (lost_at lost (2 * k))) p refl) q ∙ ap (numbers_at first lost) two

  steps : (e : ℕ) → ((numbers_at first lost e).label ≤ first.label + e) × ((numbers_at first lost e).attr ≤ first.attr + (max_locals + 2) * e)
  unfolding numbers_at
  steps zero = (omega arith, omega arith)
  steps (suc e) = let p = past_small (numbers_at first lost e) (get_or lost e 0) in (omega (arith, (steps e).0, p.0), omega (arith, (steps e).1, p.1))

  pub numbers_small : (e : ℕ) (x : Next) → LowNext first → e ≤ 2 * max_instructions → x ≡ numbers_at first lost e → NextBelow next_room x
  numbers_small e x h l q = subst (NextBelow next_room) (sym q) (record { label = omega (arith, (steps e).0, h.label); attr = omega (arith, (steps e).1, h.attr) })

  attr_step : (e : ℕ) → (numbers_at first lost (suc e)).attr ≡ (numbers_at first lost e).attr + block_size (lost_at lost e)
  unfolding numbers_at
  attr_step e = refl

  label_step : (e : ℕ) → (numbers_at first lost (suc e)).label ≡ (numbers_at first lost e).label + cond (ltb 0 (length (lost_at lost e))) 1 0
  unfolding numbers_at
  label_step e = refl

  -- an edge uses up its block's numbers before any later one
  pub attr_mono : (e m : ℕ) → e < m → (numbers_at first lost e).attr + block_size (lost_at lost e) ≤ (numbers_at first lost m).attr
  attr_mono e zero h = absurd (omega arith)
  attr_mono e (suc m) h =
      by_eq e m (λ q. subst (λ (x : ℕ). (numbers_at first lost x).attr + block_size (lost_at lost x) ≤ (numbers_at first lost (suc m)).attr) (sym q) (omega (arith, attr_step m)))
      (λ g. omega (arith, attr_step m, attr_mono e m (omega arith)))

  label_mono : (e m : ℕ) → e < m → 0 < length (lost_at lost e) → (numbers_at first lost e).label < (numbers_at first lost m).label
  label_mono e zero h w = absurd (omega arith)
  label_mono e (suc m) h w =
      by_eq e m (λ q. subst (λ (x : ℕ). (numbers_at first lost x).label < (numbers_at first lost (suc m)).label) (sym q) (here (subst (λ (x : ℕ). 0 < length (lost_at lost x)) q w)))
      (λ g. omega (arith, label_step m, label_mono e m (omega arith) w))
    where
      here : 0 < length (lost_at lost m) → (numbers_at first lost m).label < (numbers_at first lost (suc m)).label
      here z = let one : ◌≡◌ {A = ℕ} (cond (ltb 0 (length (lost_at lost m))) 1 0) 1 = ap (λ (b : Bool). cond b 1 0) (lt-ltb 0 (length (lost_at lost m)) z) in omega (arith, label_step m)

  pub attr_first : (e : ℕ) → first.attr ≤ (numbers_at first lost e).attr
  unfolding numbers_at
  attr_first zero = omega arith
  attr_first (suc e) = omega (arith, attr_first e)

  -- the numbers fit
  low : (n : ℕ) (last : Next) → last ≡ numbers_at first lost (2 * n) → fit_between first last ≡ true → (e : ℕ) → e < 2 * n → 0 < length (lost_at lost e) → (last.label ≤ suc max_number) × (last.attr ≤ suc max_number)
  low n last q f e l w =
      let more : first.attr < last.attr = omega (arith, ap (λ (x : Next). x.attr) q, attr_mono e (2 * n) l, attr_first e, size_is (lost_at lost e) w) in
      ⊎_elim (λ z. absurd (let same : first.attr ≡ last.attr = eqb-true _ _ z in omega arith)) (λ z. let r = and-true (leb last.label (suc max_number)) (leb last.attr (suc max_number)) z in (leb-true _ _ r.0, leb-true _ _ r.1))
      (or-true (eqb first.attr last.attr) (leb last.label (suc max_number) && leb last.attr (suc max_number)) f)

  pub fitting : (n : ℕ) (last : Next) → last ≡ numbers_at first lost (2 * n) → fit_between first last ≡ true → Fitting lost n first
  fitting n last q f = record {
    label = λ e l w. omega (arith, (low n last q f e l w).0, ap (λ (x : Next). x.label) q, label_mono e (2 * n) l w);
    attr = λ e l w. omega (arith, (low n last q f e l w).1, ap (λ (x : Next). x.attr) q, attr_mono e (2 * n) l);
  }

  -- the labels of both edges of offset k
  pub labels_fit : (n k : ℕ) (x : Next) → Fitting lost n first → k < n → x ≡ numbers_at first lost (2 * k) → LabelsFit lost k x
  labels_fit n k x f l q = record {
    one = λ w. omega (arith, f.label (2 * k) (omega arith) w, ap (λ (y : Next). y.label) q);
    two = λ w. omega (arith, f.label (2 * k + 1) (omega arith) w, ap (λ (y : Next). y.label) (numbers_next (2 * k) x (past x (lost_at lost (2 * k))) q refl));
  }

-- by a set that is read from the table
module _ (lost : List ℕ) (e m : ℕ) (x : Next) (is : m ≡ get_or lost e 0) where
  pub past_as : (y : Next) → y ≡ past x (members max_locals m) → y ≡ past x (lost_at lost e)
  past_as y q = q ∙ ap (λ (z : ℕ). past x (members max_locals z)) is

  -- room for a block
  pub block_room : (size : ℕ) → (m ≡ 0 → ⊥) → m < 2 ^ max_locals → BlockFits (lost_at lost e) x size → NewBlockRoom x m size
  block_room size f h b =
      let long : block_size (lost_at lost e) ≡ ones m + 2 = ap (λ (z : ℕ). block_size (members max_locals z)) (sym is) ∙ added_is m f h in
      let some : 0 < length (lost_at lost e) = subst (λ (z : ℕ). 0 < length (members max_locals z)) is (some_lost m f h) in
      record {
        some = f;
        small = h;
        label = b.label some;
        attr = omega (arith, long, b.attr some);
        fits = omega (arith, long, b.records);
      }

-- ---- how many instructions

module _ (code : List Bytecode) (first : Next) (lost : List ℕ) where
  added_size : (e : ℕ) → length (added_by code lost first e) ≡ block_size (lost_at lost e)
  unfolding added_at
  added_size e = block_size_lem (numbers_at first lost e).attr (numbers_at first lost e).label (target_of code e) (lost_at lost e)

  joins_more : (f : ℕ → List Bytecode) (e : ℕ) → length (joins (suc e) f) ≡ length (joins e f) + length (f e)
  unfolding joins
  joins_more f e = length-append (joins e f) (f e)

  -- of blocks before edge e
  pub attr_is : (e : ℕ) → (numbers_at first lost e).attr ≡ first.attr + length (joins e (added_by code lost first))
  attr_is zero = unfold numbers_at joins in sym (add-zero first.attr)
  attr_is (suc e) = let next : (numbers_at first lost (suc e)).attr ≡ (numbers_at first lost e).attr + block_size (lost_at lost e) = unfold numbers_at in refl in omega (arith, attr_is e, joins_more (added_by code lost first) e, added_size e)

  pub written_is : (e : ℕ) (x : Next) → x ≡ numbers_at first lost e → (first.attr ≤ x.attr) × (x.attr - first.attr ≡ length (joins e (added_by code lost first)))
  written_is e x q = let a = ap (λ (y : Next). y.attr) q in (omega (arith, attr_is e), omega (arith, attr_is e))

  -- the block of edge e ends before all blocks do
  pub block_inside : (n e : ℕ) → e < 2 * n → length (joins e (added_by code lost first)) + block_size (lost_at lost e) ≤ length (joins (2 * n) (added_by code lost first))
  block_inside n e l = omega (arith, attr_is e, attr_is (2 * n), attr_mono first lost e (2 * n) l)

  -- where it begins, and where it ends
  pub block_place : (n e : ℕ) (x : Next) → e < 2 * n → x ≡ numbers_at first lost e → (x.attr - first.attr) + block_size (lost_at lost e) ≤ length (joins (2 * n) (added_by code lost first))
  block_place n e x l q = omega (arith, (written_is e x q).1, block_inside n e l)

  pub block_fits : (n e size : ℕ) (x : Next) → Fitting lost n first → e < 2 * n → x ≡ numbers_at first lost e → record_bytes * block_size (lost_at lost e) ≤ size → BlockFits (lost_at lost e) x size
  block_fits n e size x f l q w = record {
    label = λ h. omega (arith, f.label e l h, ap (λ (y : Next). y.label) q);
    attr = λ h. omega (arith, f.attr e l h, ap (λ (y : Next). y.attr) q);
    records = w;
  }

  module _ (fates : List Fate) where
    kept_size : (k : ℕ) → length (kept_by code fates lost first k) ≡ cond (not (goes (fate_at fates k))) 1 0
    unfolding kept_at
    kept_size k = by_test (λ b. length (cond b [] (stands_at code fates lost k (numbers_at first lost (2 * k)) ∷ [])) ≡ cond (not b) 1 0) (goes (fate_at fates k)) (λ e. refl) (λ e. refl)

    kept_length : (n : ℕ) → length (joins n (kept_by code fates lost first)) ≡ count n (λ k. not (goes (fate_at fates k)))
    kept_length n = joins_length n (kept_by code fates lost first) ∙ total_same n _ _ kept_size ∙ sym (count_total n (λ k. not (goes (fate_at fates k))))

    pub code_parts : (n : ℕ) → length (code_by code fates lost n first) ≡ length (joins n (kept_by code fates lost first)) + length (joins (2 * n) (added_by code lost first))
    code_parts n = length-append (joins n (kept_by code fates lost first)) (joins (2 * n) (added_by code lost first))

    pub length_is : (n kept : ℕ) (last : Next) → kept ≡ count n (λ k. not (goes (fate_at fates k))) → last ≡ numbers_at first lost (2 * n) → kept + (last.attr - first.attr) ≡ length (code_by code fates lost n first)
    length_is n kept last k q = ap₂ ◌+◌ (k ∙ sym (kept_length n)) (written_is (2 * n) last q).1 ∙ sym (code_parts n)

-- ---- the count

pub not_true : {b : Bool} → not b ≡ true → b ≡ false
not_true {b = true} e = sym e
not_true {b = false} e = refl

pub not_false : {b : Bool} → not b ≡ false → b ≡ true
not_false {b = true} e = refl
not_false {b = false} e = sym e

abbrev kept : List Fate → ℕ → Bool
kept fates k = not (goes (fate_at fates k))

pub kept_none : (fates : List Fate) → 0 ≡ count 0 (λ k. not (goes (fate_at fates k)))
unfolding count
kept_none fates = refl

module _ (fates : List Fate) (k a : ℕ) (e : a ≡ count k (λ j. not (goes (fate_at fates j)))) where
  pub kept_more : goes (fate_at fates k) ≡ false → a + 1 ≡ count (k + 1) (λ j. not (goes (fate_at fates j)))
  kept_more f = add-one a ∙ ap suc e ∙ sym (ap (λ (j : ℕ). count j (kept fates)) (add-one k) ∙ count_in k (kept fates) (ap not f))

  pub kept_same : goes (fate_at fates k) ≡ true → a ≡ count (k + 1) (λ j. not (goes (fate_at fates j)))
  kept_same f = e ∙ sym (ap (λ (j : ℕ). count j (kept fates)) (add-one k) ∙ count_out k (kept fates) (ap not f))

pub counts_small : {fates : List Fate} {lost : List ℕ} {n : ℕ} {first : Next} {c : Counts} → n ≤ max_instructions → LowNext first → Counted fates lost n first c → (c.kept ≤ max_instructions) × NextBelow next_room c.next
counts_small {fates} {lost} {n} {first} {c} few low k = (omega (arith, few, k.kept, count_le n (kept fates)), numbers_small first lost (2 * n) c.next low (omega (arith, few)) k.next)

pub counted : (fates : List Fate) (lost : List ℕ) (n k a : ℕ) (first x : Next) → k ≡ n → a ≡ count k (λ j. not (goes (fate_at fates j))) → x ≡ numbers_at first lost (2 * k) → Counted fates lost n first (record { kept = a; next = x })
counted fates lost n k a first x e p q = record { kept = p ∙ ap (λ (j : ℕ). count j (kept fates)) e; next = q ∙ ap (λ (j : ℕ). numbers_at first lost (2 * j)) e }
