-- The pieces of the rewritten code: new numbers, the parts of a block, what is dropped or merged, and new offsets. Assumes nothing.
use Rattle.std.specs.Prelude.{◌≡◌, ◌⊎◌, ◌≢◌, Bool, false, ◌||◌, ◌&&◌, get_or, length, refl, true, not, List, [], ◌∷◌, ℕ, zero, suc, ◌+◌, ◌-◌, ◌≤◌, ◌<◌, eqb}
use Rattle.std.proofs.Common.{ap, ap₂, ◌∙◌, ⊎_elim, not-suc-le-zero, le_of_suc-le-suc, length-append, inl, inr, arith, eqb-true}
use mathlib.Core.List.Memᴰ
use mathlib.Core.List.{Memᴰ}
use Rattle.std.proofs.lemmas.Bool.{not-true}
use Rattle.std.proofs.Math.ListN.{get_or-append, get_or-eq_default}
use Rattle.dataflow_domains.specs.Mask.{holds}
use Rattle.stackless_bytecode.specs.declared.Bytecode.{Bytecode}
use Rattle.base.specs.Lists.{count, gather}
use Rattle.stackless_bytecode.specs.Kinds.{Assign, Call, Load, Jump, Label, Destroy, nop, at, is_flagged, falls_through, branch_dests, label_of}
use Rattle.livevar_analysis.specs.Analysis.{LiveVarInfo}
use Rattle.livevar_transform.specs.Rewrite.{made, destroys, destroy_block, block_size, info_at, is_dead, is_merged, is_dropped, highest, next_free_label}
use Rattle.base.specs.ListLaws.{by_test, gather_in, get_d_in, and-true}
use Rattle.base.specs.JoinLaws.{by_lt, get_d_behind, count_in, count_out, count_mono, count_lt}
use Rattle.stackless_bytecode.specs.KindLaws.{assign_falls, load_falls, assign_names, load_names}

-- ---- the numbers that come next

pub highest_in : (xs : List ℕ) (x : ℕ) → Memᴰ x xs → x ≤ highest xs
unfolding highest
highest_in [] x i = absurd (Memᴰ.not-nil i)
highest_in (y ∷ ys) x i = ⊎_elim (λ e. omega arith) (λ t. omega (arith, highest_in ys x t)) (Memᴰ.cases_cons i)

pub label_below : (code : List Bytecode) (o l : ℕ) → o < length code → Memᴰ l (label_of (at code o)) → l < next_free_label code
unfolding next_free_label
label_below code o l h i = omega (arith, highest_in (gather label_of code) l (gather_in label_of code (get_d_in code o nop h) i))

-- ---- the parts of a block

pub destroys_length : (a : ℕ) (xs : List ℕ) → length (destroys a xs) ≡ length xs
unfolding destroys
destroys_length a [] = refl
destroys_length a (x ∷ xs) = ap suc (destroys_length (suc a) xs)

pub destroy_at : (a : ℕ) (xs : List ℕ) (i : ℕ) → i < length xs → get_or (destroys a xs) i nop ≡ made Call Destroy (a + i) 0 (get_or xs i 0 ∷ [])
unfolding destroys
destroy_at a [] i h = absurd (not-suc-le-zero h)
destroy_at a (x ∷ xs) zero h = let e : a ≡ a + 0 = omega arith in ap (λ (z : ℕ). made Call Destroy z 0 (x ∷ [])) e
destroy_at a (x ∷ xs) (suc i) h =
    let e : suc a + i ≡ a + suc i = omega arith in
    destroy_at (suc a) xs i (le_of_suc-le-suc h) ∙ ap (λ (z : ℕ). made Call Destroy z 0 (get_or xs i 0 ∷ [])) e

pub block_size_lem : (a l t : ℕ) (xs : List ℕ) → length (destroy_block a l t xs) ≡ block_size xs
unfolding destroy_block block_size
block_size_lem a l t [] = refl
block_size_lem a l t (x ∷ xs) = omega (arith, length-append (destroys (suc a) (x ∷ xs)) (made Jump 0 (suc a + suc (length xs)) t [] ∷ []), destroys_length (suc a) (x ∷ xs))

pub data Part (a l t : ℕ) (lost : List ℕ) (j : ℕ) (r : Bytecode) : Type 0 where
  head : j ≡ 0 → r ≡ made Label 0 a l [] → Part a l t lost j r
  destroy : (i : ℕ) → i < length lost → j ≡ suc i → r ≡ made Call Destroy (suc a + i) 0 (get_or lost i 0 ∷ []) → Part a l t lost j r
  last : j ≡ suc (length lost) → r ≡ made Jump 0 (suc a + length lost) t [] → Part a l t lost j r

pub block_part : (a l t : ℕ) (lost : List ℕ) (j : ℕ) → j < block_size lost → Part a l t lost j (get_or (destroy_block a l t lost) j nop)
unfolding destroy_block block_size
block_part a l t [] j h = absurd (not-suc-le-zero h)
block_part a l t (x ∷ xs) zero h = head refl refl
block_part a l t (x ∷ xs) (suc i) h =
    by_lt i (length (x ∷ xs))
    (λ g. destroy i g refl (get_or-append (destroys (suc a) (x ∷ xs)) _ nop i (omega (arith, destroys_length (suc a) (x ∷ xs))) ∙ destroy_at (suc a) (x ∷ xs) i g))
    (λ g. let s : i ≡ suc (length xs) = omega arith in
    let z : i - length (destroys (suc a) (x ∷ xs)) ≡ 0 = omega (arith, destroys_length (suc a) (x ∷ xs)) in
    last (omega arith) (get_d_behind (destroys (suc a) (x ∷ xs)) (made Jump 0 (suc a + suc (length xs)) t [] ∷ []) i nop (omega (arith, destroys_length (suc a) (x ∷ xs)))
    ∙ ap (λ (y : ℕ). get_or (made Jump 0 (suc a + suc (length xs)) t [] ∷ []) y nop) z))

-- what the instructions of a block mark and name
pub head_marks : (a l : ℕ) → label_of (made Label 0 a l []) ≡ l ∷ []
unfolding label_of
head_marks a l = refl

pub destroy_marks : (a x : ℕ) → label_of (made Call Destroy a 0 (x ∷ [])) ≡ []
unfolding label_of
destroy_marks a x = refl

pub last_marks : (a t : ℕ) → label_of (made Jump 0 a t []) ≡ []
unfolding label_of
last_marks a t = refl

pub head_names : (a l : ℕ) → branch_dests (made Label 0 a l []) ≡ []
unfolding branch_dests is_flagged
head_names a l = refl

pub destroy_names : (a x : ℕ) → branch_dests (made Call Destroy a 0 (x ∷ [])) ≡ []
unfolding branch_dests is_flagged
destroy_names a x = refl

pub last_names : (a t : ℕ) → branch_dests (made Jump 0 a t []) ≡ t ∷ []
unfolding branch_dests is_flagged
last_names a t = refl

-- a block that loses something has its Label first, its Destroys next, and its Jump last
pub block_head : (a l t : ℕ) (lost : List ℕ) → 0 < length lost → get_or (destroy_block a l t lost) 0 nop ≡ made Label 0 a l []
unfolding destroy_block
block_head a l t [] h = absurd (not-suc-le-zero h)
block_head a l t (x ∷ xs) h = refl

pub size_is : (lost : List ℕ) → 0 < length lost → block_size lost ≡ suc (suc (length lost))
unfolding block_size
size_is [] h = absurd (not-suc-le-zero h)
size_is (x ∷ xs) h = omega arith

pub size_some : (lost : List ℕ) → 0 < block_size lost → 0 < length lost
unfolding block_size
size_some [] h = h
size_some (x ∷ xs) h = omega arith

-- ---- new offsets

-- the new offset of k: how many before it are kept
unfoldable pub pos : List Bytecode → List LiveVarInfo → ℕ → ℕ
pos code info k = count k (λ j. not (is_dropped code info j))

-- ---- what is dropped and what is merged

module _ (code : List Bytecode) (info : List LiveVarInfo) where
  pub record Dead (k : ℕ) : Type 0 where
    pub kind : ((at code k).kind ≡ Assign) ⊎ ((at code k).kind ≡ Load)
    pub gone : holds (info_at info k).after (get_or (at code k).dsts 0 0) ≡ false

  pub record Merged (k : ℕ) : Type 0 where
    pub call : (at code k).kind ≡ Call
    pub single : (at code k).ndst ≡ 1
    pub assign : (at code (suc k)).kind ≡ Assign
    pub from : get_or (at code (suc k)).srcs 0 0 ≡ get_or (at code k).dsts 0 0
    pub gone : holds (info_at info (suc k)).after (get_or (at code k).dsts 0 0) ≡ false

  pub is_dead_lem : (k : ℕ) → is_dead code info k ≡ true → Dead k
  unfolding is_dead
  is_dead_lem k e =
      let r = and-true (eqb (at code k).kind Assign || eqb (at code k).kind Load) _ e in
      record { kind = either r.0; gone = not-true _ r.1 }
    where
      either : eqb (at code k).kind Assign || eqb (at code k).kind Load ≡ true → ((at code k).kind ≡ Assign) ⊎ ((at code k).kind ≡ Load)
      either =
          by_test (λ b. eqb (at code k).kind Assign ≡ b → b || eqb (at code k).kind Load ≡ true → ((at code k).kind ≡ Assign) ⊎ ((at code k).kind ≡ Load)) (eqb (at code k).kind Assign)
          (λ t q f. inl (eqb-true _ 0 t)) (λ t q f. inr (eqb-true _ 3 f)) refl

  pub is_merged_lem : (k : ℕ) → is_merged code info k ≡ true → Merged k
  unfolding is_merged
  is_merged_lem k e =
      let c = at code k in
      let n = at code (suc k) in
      let r1 = and-true (eqb c.kind Call && eqb c.ndst 1 && eqb n.kind Assign && eqb (get_or n.srcs 0 0) (get_or c.dsts 0 0)) _ e in
      let r2 = and-true (eqb c.kind Call && eqb c.ndst 1 && eqb n.kind Assign) _ r1.0 in
      let r3 = and-true (eqb c.kind Call && eqb c.ndst 1) _ r2.0 in
      let r4 = and-true (eqb c.kind Call) _ r3.0 in
      record {
        call = eqb-true _ 1 r4.0;
        single = eqb-true _ 1 r4.1;
        assign = eqb-true _ 0 r3.1;
        from = eqb-true _ _ r2.1;
        gone = not-true _ r1.1;
      }

  -- what is dropped is dead, or the Assign behind a merged Call
  pub data Gone : ℕ → Type 0 where
    dead : {k : ℕ} → Dead k → Gone k
    behind : {k : ℕ} → is_merged code info k ≡ true → Merged k → Gone (suc k)

  pub is_gone : (k : ℕ) → is_dropped code info k ≡ true → Gone k
  unfolding is_dropped
  is_gone zero e = dead (is_dead_lem 0 e)
  is_gone (suc k) e =
      by_test (λ b. is_dead code info (suc k) ≡ b → b || is_merged code info k ≡ true → Gone (suc k)) (is_dead code info (suc k))
      (λ t q f. dead (is_dead_lem (suc k) t)) (λ t q f. behind f (is_merged_lem k f)) refl e

  gone_kind : {k : ℕ} → Gone k → ((at code k).kind ≡ Assign) ⊎ ((at code k).kind ≡ Load)
  gone_kind (dead d) = d.kind
  gone_kind (behind e m) = inl m.assign

  -- another kind is kept
  pub kept_by_lem : (k : ℕ) → (at code k).kind ≢ 0 → (at code k).kind ≢ 3 → is_dropped code info k ≡ false
  kept_by_lem k a b =
      by_test (λ t. is_dropped code info k ≡ t → is_dropped code info k ≡ false) (is_dropped code info k)
      (λ e q. absurd (⊎_elim a b (gone_kind (is_gone k e)))) (λ e q. e) refl

  pub gone_falls : {k : ℕ} → Gone k → falls_through (at code k) ≡ true
  gone_falls {k} g = ⊎_elim (assign_falls (at code k)) (load_falls (at code k)) (gone_kind g)

  -- (for request E12)
  pub gone_names : {k : ℕ} → Gone k → branch_dests (at code k) ≡ []
  gone_names {k} g = ⊎_elim (assign_names (at code k)) (load_names (at code k)) (gone_kind g)

  -- what is dead is dropped (for request E12)
  pub dead_dropped : (k : ℕ) → ((at code k).kind ≡ Assign) ⊎ ((at code k).kind ≡ Load) → holds (info_at info k).after (get_or (at code k).dsts 0 0) ≡ false → is_dropped code info k ≡ true
  dead_dropped k kind e = go k (dead_is k kind e)
    where
      dead_is : (j : ℕ) → ((at code j).kind ≡ Assign) ⊎ ((at code j).kind ≡ Load) → holds (info_at info j).after (get_or (at code j).dsts 0 0) ≡ false → is_dead code info j ≡ true
      dead_is j (inl q) f = unfold is_dead in ap₂ (λ (x : ℕ) (b : Bool). (eqb x 0 || eqb x 3) && not b) q f
      dead_is j (inr q) f = unfold is_dead in ap₂ (λ (x : ℕ) (b : Bool). (eqb x 0 || eqb x 3) && not b) q f

      go : (j : ℕ) → is_dead code info j ≡ true → is_dropped code info j ≡ true
      go zero f = unfold is_dropped in f
      go (suc j) f = unfold is_dropped in ap (λ (b : Bool). b || is_merged code info j) f

  -- the Assign behind a merged Call is dropped
  pub behind_dropped : (k : ℕ) → is_merged code info k ≡ true → is_dropped code info (suc k) ≡ true
  unfolding is_dropped
  behind_dropped k e = by_test (λ b. b || is_merged code info k ≡ true) (is_dead code info (suc k)) (λ q. refl) (λ q. e)

  pub merged_kept : (k : ℕ) → Merged k → is_dropped code info k ≡ false
  merged_kept k m = kept_by_lem k (λ e. omega (arith, m.call)) (λ e. omega (arith, m.call))

  -- there is code behind a merged Call
  pub merged_inside : (k : ℕ) → Merged k → suc k < length code
  merged_inside k m =
      by_lt (suc k) (length code) (λ h. h)
      (λ h. absurd (omega (arith, m.assign, ap (λ (r : Bytecode). r.kind) (get_or-eq_default code nop {n = suc k} h))))

  -- ---- new offsets

  -- (pos_kept, pos_dropped and pos_le are for request E12, which argues by position)
  pub pos_kept : (k : ℕ) → is_dropped code info k ≡ false → pos code info (suc k) ≡ suc (pos code info k)
  unfolding pos
  pos_kept k e = count_in k (λ j. not (is_dropped code info j)) (ap not e)

  pub pos_dropped : (k : ℕ) → is_dropped code info k ≡ true → pos code info (suc k) ≡ pos code info k
  unfolding pos
  pos_dropped k e = count_out k (λ j. not (is_dropped code info j)) (ap not e)

  pub pos_lt : (i j : ℕ) → is_dropped code info i ≡ false → i < j → pos code info i < pos code info j
  unfolding pos
  pos_lt i j e h = count_lt i j (λ j. not (is_dropped code info j)) (ap not e) h

  pub pos_le : (i j : ℕ) → i ≤ j → pos code info i ≤ pos code info j
  unfolding pos
  pos_le i j h =
      let s : i + (j - i) ≡ j = omega arith in
      omega (arith, count_mono i (j - i) (λ k. not (is_dropped code info k)), ap (λ (x : ℕ). count x (λ k. not (is_dropped code info k))) s)
