-- Where everything stands in the rewritten code: kept instructions and new blocks; what stands for an offset, and what an edge loses. Assumes nothing.
use Rattle.std.specs.Prelude.{◌≡◌, ◌≢◌, Bool, refl, true, false, cond, not, List, [], ◌∷◌, ◌++◌, ℕ, suc, ◌+◌, ◌-◌, ◌*◌, ◌/◌, ◌%◌, ◌<◌, eqb, get_or, length}
use Rattle.std.proofs.Common.{sym, ap, ap₂, subst, ◌∙◌, not-suc-le-zero, arith, eqb-true, eq-eqb, ltb-true, lt-ltb, length-append, get_or-append-add}
use mathlib.Core.List.{Memᴰ}
use Rattle.std.proofs.lemmas.Bool.{eqb-false}
use Rattle.std.specs.Int.Bits.{bit_and}
use Rattle.std.proofs.Math.ListN.{get_or-append}
use Rattle.dataflow_domains.specs.Mask.{bit, holds, minus}
use Rattle.dataflow_domains.specs.MaskLaws.{bit_lt, bit_and_lem, bit_minus}
use Rattle.dataflow_domains.specs.HoldsLaws.{holds_true}
use Rattle.stackless_bytecode.specs.declared.Bytecode.{Bytecode}
use Rattle.base.specs.Sizes.{max_locals}
use Rattle.base.specs.Lists.{keep, count, total, joins}
use Rattle.stackless_bytecode.specs.Kinds.{Branch, Label, nop, at, is_exit, is_flagged, stop_ok, falls_through, branch_dests, label_of}
use Rattle.stackless_bytecode.specs.Labels.{label_offset}
use Rattle.livevar_analysis.specs.Analysis.{LiveVarInfo}
use Rattle.livevar_transform.specs.Rewrite.{aimed, into, destroy_block, block_size, info_at, is_merged, is_dropped, target_of, lost_refs, is_losing, label_for, attr_for, goes_to, stands_for, kept_code, block_on, added_code, transform_code}
use Rattle.base.specs.ListLaws.{by_test, in_keep}
use Rattle.base.specs.JoinLaws.{by_lt, joins_length, total_same, total_le, joins_at, InJoin, find, count_total}
use Rattle.stackless_bytecode.specs.KindLaws.{branch_names}
use Rattle.livevar_transform.specs.PieceLaws.{block_size_lem, Part, block_part, pos, pos_lt}

-- ---- where everything stands

module _ (code : List Bytecode) (info : List LiveVarInfo) (refs : ℕ) where
  -- where the block of edge e begins
  unfoldable pub start_of : ℕ → ℕ
  start_of e = pos code info (length code) + total e (λ j. block_size (lost_refs code info refs j))

  -- lists laid out as the new code is: one element for each kept offset, then a block for each edge
  module _ {A : Type 0} (f g : ℕ → List A)
      (fs : (k : ℕ) → length (f k) ≡ cond (not (is_dropped code info k)) 1 0)
      (gs : (e : ℕ) → length (g e) ≡ block_size (lost_refs code info refs e)) where
    front_length : (k : ℕ) → total k (λ j. length (f j)) ≡ pos code info k
    unfolding pos
    front_length k = total_same k _ _ fs ∙ sym (count_total k (λ j. not (is_dropped code info j)))

    front_is : length (joins (length code) f) ≡ pos code info (length code)
    front_is = joins_length (length code) f ∙ front_length (length code)

    pub laid_length : length (joins (length code) f ++ joins (2 * length code) g) ≡ start_of (2 * length code)
    unfolding start_of
    laid_length =
        length-append (joins (length code) f) (joins (2 * length code) g)
        ∙ ap₂ ◌+◌ front_is (joins_length (2 * length code) g ∙ total_same (2 * length code) _ _ gs)

    pub laid_kept : (i : ℕ) (d : A) → i < length code → is_dropped code info i ≡ false
        → get_or (joins (length code) f ++ joins (2 * length code) g) (pos code info i) d ≡ get_or (f i) 0 d
    laid_kept i d h e =
        let size : length (f i) ≡ 1 = fs i ∙ ap (λ (b : Bool). cond (not b) 1 0) e in
        let place : total i (λ j. length (f j)) + 0 ≡ pos code info i = omega (arith, front_length i) in
        get_or-append (joins (length code) f) (joins (2 * length code) g) d (pos code info i) (omega (arith, pos_lt code info i (length code) e h, front_is))
        ∙ ap (λ (x : ℕ). get_or (joins (length code) f) x d) (sym place)
        ∙ joins_at (length code) i 0 f d h (omega arith)

    pub laid_added : (e j : ℕ) (d : A) → e < 2 * length code → j < block_size (lost_refs code info refs e)
        → get_or (joins (length code) f ++ joins (2 * length code) g) (start_of e + j) d ≡ get_or (g e) j d
    unfolding start_of
    laid_added e j d h w =
        let place : (pos code info (length code) + total e (λ x. block_size (lost_refs code info refs x))) + j ≡ length (joins (length code) f) + (total e (λ x. length (g x)) + j) = omega (arith, front_is, total_same e _ _ gs) in
        ap (λ (x : ℕ). get_or (joins (length code) f ++ joins (2 * length code) g) x d) place
        ∙ get_or-append-add (joins (length code) f) (joins (2 * length code) g) (total e (λ x. length (g x)) + j) d
        ∙ joins_at (2 * length code) e j g d h (omega (arith, gs e))

  -- every new offset is that of a kept instruction, or in a block
  pub data Where (p : ℕ) : Type 0 where
    kept : (i : ℕ) → i < length code → is_dropped code info i ≡ false → p ≡ pos code info i → Where p
    added : (e j : ℕ) → e < 2 * length code → j < block_size (lost_refs code info refs e) → p ≡ start_of e + j → Where p

  pub where_is : (p : ℕ) → p < start_of (2 * length code) → Where p
  unfolding start_of pos
  where_is p h =
      by_lt p (count (length code) (λ j. not (is_dropped code info j)))
      (λ l. front (find (length code) p (λ j. cond (not (is_dropped code info j)) 1 0) (omega (arith, count_total (length code) (λ j. not (is_dropped code info j))))))
      (λ l. let r = find (2 * length code) (p - count (length code) (λ j. not (is_dropped code info j))) (λ j. block_size (lost_refs code info refs j)) (omega arith) in
      added r.piece r.place r.inside r.within (omega (arith, r.is)))
    where
      front : InJoin (length code) (λ j. cond (not (is_dropped code info j)) 1 0) p → Where p
      front r =
          by_test (λ b. is_dropped code info r.piece ≡ b → r.place < cond (not b) 1 0 → Where p) (is_dropped code info r.piece)
          (λ e q w. absurd (not-suc-le-zero w))
          (λ e q w. kept r.piece r.inside e (omega (arith, r.is, count_total r.piece (λ j. not (is_dropped code info j))))) refl r.within

  kept_size : (k : ℕ) → length (kept_code code info refs k) ≡ cond (not (is_dropped code info k)) 1 0
  unfolding kept_code
  kept_size k = by_test (λ b. length (cond b [] (stands_for code info refs k ∷ [])) ≡ cond (not b) 1 0) (is_dropped code info k) (λ e. refl) (λ e. refl)

  added_size : (e : ℕ) → length (block_on code info refs e) ≡ block_size (lost_refs code info refs e)
  unfolding block_on
  added_size e = block_size_lem (attr_for code info refs e) (label_for code info refs e) (target_of code e) (lost_refs code info refs e)

  pub added_length : length (added_code code info refs) ≡ total (2 * length code) (λ e. block_size (lost_refs code info refs e))
  unfolding added_code
  added_length = joins_length (2 * length code) (block_on code info refs) ∙ total_same (2 * length code) _ _ added_size

  pub new_length : length (transform_code code info refs) ≡ start_of (2 * length code)
  unfolding transform_code added_code
  new_length = laid_length (kept_code code info refs) (block_on code info refs) kept_size added_size

  pub new_kept : (i : ℕ) → i < length code → is_dropped code info i ≡ false → at (transform_code code info refs) (pos code info i) ≡ stands_for code info refs i
  unfolding transform_code added_code
  new_kept i h e = laid_kept (kept_code code info refs) (block_on code info refs) kept_size added_size i nop h e ∙ one
    where
      one : get_or (kept_code code info refs i) 0 nop ≡ stands_for code info refs i
      one = unfold kept_code in ap (λ (b : Bool). get_or (cond b [] (stands_for code info refs i ∷ [])) 0 nop) e

  pub new_added : (e j : ℕ) → e < 2 * length code → j < block_size (lost_refs code info refs e)
      → at (transform_code code info refs) (start_of e + j) ≡ get_or (block_on code info refs e) j nop
  unfolding transform_code added_code
  new_added e j h w = laid_added (kept_code code info refs) (block_on code info refs) kept_size added_size e j nop h w

  -- the instruction of a block
  pub added_part : (e j : ℕ) → e < 2 * length code → j < block_size (lost_refs code info refs e)
      → Part (attr_for code info refs e) (label_for code info refs e) (target_of code e) (lost_refs code info refs e) j (at (transform_code code info refs) (start_of e + j))
  added_part e j h w =
      subst (Part (attr_for code info refs e) (label_for code info refs e) (target_of code e) (lost_refs code info refs e) j) (sym (new_added e j h w ∙ unfolded))
      (block_part (attr_for code info refs e) (label_for code info refs e) (target_of code e) (lost_refs code info refs e) j w)
    where
      unfolded : get_or (block_on code info refs e) j nop ≡ get_or (destroy_block (attr_for code info refs e) (label_for code info refs e) (target_of code e) (lost_refs code info refs e)) j nop
      unfolded = unfold block_on in refl

  pub pos_inside : (i : ℕ) → i < length code → is_dropped code info i ≡ false → pos code info i < length (transform_code code info refs)
  pos_inside i h e = unfold start_of in omega (arith, new_length, pos_lt code info i (length code) e h)

  pub added_inside : (e j : ℕ) → e < 2 * length code → j < block_size (lost_refs code info refs e) → start_of e + j < length (transform_code code info refs)
  added_inside e j h w = unfold start_of in omega (arith, new_length, total_le (2 * length code) e (λ x. block_size (lost_refs code info refs x)) h)

  -- ---- what stands for an offset

  pub by_stands : (P : Bytecode → Type 0) (k : ℕ)
      → ((at code k).kind ≡ Branch → P (aimed (at code k) (goes_to code info refs (2 * k)) (goes_to code info refs (suc (2 * k)))))
      → (is_merged code info k ≡ true → P (into (at code k) (at code (suc k)).dsts))
      → ((at code k).kind ≢ 4 → is_merged code info k ≡ false → P (at code k))
      → P (stands_for code info refs k)
  unfolding stands_for
  by_stands P k branch merged other =
      by_test (λ b. P (cond b (aimed (at code k) (goes_to code info refs (2 * k)) (goes_to code info refs (suc (2 * k)))) (cond (is_merged code info k) (into (at code k) (at code (suc k)).dsts) (at code k)))) (eqb (at code k).kind Branch)
      (λ e. branch (eqb-true _ 4 e))
      (λ e. by_test (λ b. P (cond b (into (at code k) (at code (suc k)).dsts) (at code k))) (is_merged code info k) merged (other (eqb-false _ 4 e)))

  pub stands_label : (k : ℕ) → label_of (stands_for code info refs k) ≡ label_of (at code k)
  unfolding label_of
  stands_label k = by_stands (λ r. cond (eqb r.kind Label) (r.one ∷ []) [] ≡ cond (eqb (at code k).kind Label) ((at code k).one ∷ []) []) k (λ e. rw e) (λ e. refl) (λ e f. refl)

  pub stands_falls : (k : ℕ) → falls_through (stands_for code info refs k) ≡ falls_through (at code k)
  unfolding falls_through is_exit
  stands_falls k = by_stands (λ r. falls_through r ≡ falls_through (at code k)) k (λ e. refl) (λ e. refl) (λ e f. refl)

  pub stands_stop : (k : ℕ) → stop_ok (stands_for code info refs k) ≡ stop_ok (at code k)
  unfolding stop_ok is_flagged
  stands_stop k = by_stands (λ r. stop_ok r ≡ stop_ok (at code k)) k (λ e. refl) (λ e. refl) (λ e f. refl)

  -- ---- edges

  pub losing_some : (e : ℕ) → is_losing code info refs e ≡ true → 0 < length (lost_refs code info refs e)
  unfolding is_losing
  losing_some e h = ltb-true 0 _ h

  pub some_losing : (e : ℕ) → 0 < length (lost_refs code info refs e) → is_losing code info refs e ≡ true
  unfolding is_losing
  some_losing e h = lt-ltb 0 _ h

  -- only a Branch loses
  pub losing_branch : (e : ℕ) → 0 < length (lost_refs code info refs e) → (at code (e / 2)).kind ≡ Branch
  unfolding lost_refs
  losing_branch e h =
      by_test (λ b. eqb (at code (e / 2)).kind Branch ≡ b → 0 < length {A = ℕ} (elim b as (λ _. List ℕ) [ true ↦ keep max_locals 0 (holds (minus (bit_and (info_at info (e / 2)).after refs) (info_at info (label_offset code (target_of code e))).before)) | false ↦ [] ]) → (at code (e / 2)).kind ≡ Branch) (eqb (at code (e / 2)).kind Branch)
      (λ t q g. eqb-true _ 4 t) (λ t q g. absurd (not-suc-le-zero g)) refl h

  -- what an edge loses is in the Branch's after, a reference, and not in the target's before
  pub record Lost (e x : ℕ) : Type 0 where
    pub low : x < max_locals
    pub in_after : bit (info_at info (e / 2)).after x ≡ 1
    pub in_refs : bit refs x ≡ 1
    pub out : bit (info_at info (label_offset code (target_of code e))).before x ≡ 0

  unfoldable pub lost_mask : ℕ → ℕ
  lost_mask e = minus (bit_and (info_at info (e / 2)).after refs) (info_at info (label_offset code (target_of code e))).before

  pub lost_is : (e : ℕ) → (at code (e / 2)).kind ≡ Branch → lost_refs code info refs e ≡ keep max_locals 0 (holds (lost_mask e))
  unfolding lost_refs lost_mask
  lost_is e h =
      ap (λ (b : Bool). elim b as (λ _. List ℕ) [ true ↦ keep max_locals 0 (holds (minus (bit_and (info_at info (e / 2)).after refs) (info_at info (label_offset code (target_of code e))).before)) | false ↦ [] ]) (eq-eqb (at code (e / 2)).kind Branch h)

  pub in_lost : (e x : ℕ) → (at code (e / 2)).kind ≡ Branch → Memᴰ x (lost_refs code info refs e) → Lost e x
  unfolding lost_mask
  in_lost e x h i =
      let k = in_keep max_locals 0 x (holds (lost_mask e)) (subst (λ (l : List ℕ). Memᴰ x l) (lost_is e h) i) in
      let both = bit_and (info_at info (e / 2)).after refs in
      let here = (info_at info (label_offset code (target_of code e))).before in
      let one = holds_true (lost_mask e) x k.test in
      let split = bit_minus both here x in
      let meet = bit_and_lem (info_at info (e / 2)).after refs x in
      record {
        low = omega (arith, k.high);
        in_after = omega (arith, one, split, meet, bit_lt (info_at info (e / 2)).after x, bit_lt refs x);
        in_refs = omega (arith, one, split, meet, bit_lt (info_at info (e / 2)).after x, bit_lt refs x);
        out = omega (arith, one, split, meet, bit_lt (info_at info (e / 2)).after x, bit_lt refs x, bit_lt here x);
      }

  -- the label that an edge goes to is named
  pub target_named : (e : ℕ) → (at code (e / 2)).kind ≡ Branch → Memᴰ (target_of code e) (branch_dests (at code (e / 2)))
  unfolding target_of
  target_named e h =
      subst (λ (l : List ℕ). Memᴰ (cond (eqb (e % 2) 0) (at code (e / 2)).one (at code (e / 2)).two) l) (sym (branch_names (at code (e / 2)) h))
      (by_test (λ b. Memᴰ (cond b (at code (e / 2)).one (at code (e / 2)).two) ((at code (e / 2)).one ∷ (at code (e / 2)).two ∷ [])) (eqb (e % 2) 0) (λ q. Memᴰ.head refl) (λ q. Memᴰ.tail (Memᴰ.head refl)))

  pub edge_target : (k : ℕ) → target_of code (2 * k) ≡ (at code k).one
  unfolding target_of
  edge_target k =
      let half : (2 * k) / 2 ≡ k = omega arith in
      let even : (2 * k) % 2 ≡ 0 = omega arith in
      ap₂ (λ (x y : ℕ). cond (eqb y 0) (at code x).one (at code x).two) half even

  pub edge_target_else : (k : ℕ) → target_of code (suc (2 * k)) ≡ (at code k).two
  unfolding target_of
  edge_target_else k =
      let half : (suc (2 * k)) / 2 ≡ k = omega arith in
      let odd : (suc (2 * k)) % 2 ≡ 1 = omega arith in
      ap₂ (λ (x y : ℕ). cond (eqb y 0) (at code x).one (at code x).two) half odd
