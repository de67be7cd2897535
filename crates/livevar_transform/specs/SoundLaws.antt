-- The rewritten code is sound: its Labels are distinct, and its edges go to offsets of it. Assumes nothing.
use Rattle.std.specs.Prelude.{◌≡◌, ◌≢◌, Bool, true, false, ℕ, suc, ◌+◌, ◌-◌, ◌*◌, ◌/◌, ◌≤◌, ◌<◌, get_or, length, refl, cond, List, [], ◌∷◌}
use Rattle.std.proofs.Common.{ap, sym, ◌∙◌, subst, ⊎_elim, true≢false, not-suc-le-zero, arith, ltb-false}
use mathlib.Core.List.Memᴰ
use mathlib.Core.List.{Memᴰ}
use Rattle.stackless_bytecode.specs.declared.Bytecode.{Bytecode}
use Rattle.stackless_bytecode.specs.Kinds.{Branch, Jump, Label, nop, at, is_flagged, stop_ok, falls_through, branch_dests, label_of}
use Rattle.stackless_bytecode.specs.Successors.{Unique}
use Rattle.stackless_bytecode.specs.Labels.{label_offset}
use Rattle.livevar_analysis.specs.Analysis.{LiveVarInfo}
use Rattle.livevar_transform.specs.Rewrite.{made, aimed, block_size, is_dropped, target_of, next_free_label, lost_refs, is_losing, label_for, attr_for, goes_to, stands_for, block_on, transform_code}
use Rattle.base.specs.ListLaws.{by_test, by_eq}
use Rattle.base.specs.JoinLaws.{count_one}
use Rattle.stackless_bytecode.specs.KindLaws.{branch_names, jump_falls, label_kind}
use Rattle.stackless_bytecode.specs.LookupLaws.{label_defined, offset_is}
use Rattle.stackless_bytecode.specs.Sound.{Defined, Sound}
use Rattle.livevar_transform.specs.PieceLaws.{label_below, Part, head_names, destroy_names, last_names, block_head, size_is, size_some, pos, is_merged_lem, is_gone, kept_by_lem, gone_falls, pos_lt, head_marks, destroy_marks, last_marks}
use Rattle.livevar_transform.specs.PlaceLaws.{start_of, Where, where_is, new_length, new_kept, new_added, added_part, pos_inside, added_inside, by_stands, stands_label, stands_stop, stands_falls, losing_some, some_losing, losing_branch, target_named}

module _ (code : List Bytecode) (info : List LiveVarInfo) (refs : ℕ) where
  -- ---- Labels of the new code

  module _ (sound : Sound code) (unique : Unique code) where
    -- a named label has its Label, which is kept
    pub record Target (l : ℕ) : Type 0 where
      pub inside : label_offset code l < length code
      pub label : Memᴰ l (label_of (at code (label_offset code l)))
      pub kept : is_dropped code info (label_offset code l) ≡ false

    label_kept : (o l : ℕ) → Memᴰ l (label_of (at code o)) → is_dropped code info o ≡ false
    label_kept o l i = let k = label_kind (at code o) l i in kept_by_lem code info o (λ e. omega arith) (λ e. omega arith)

    pub target : (k l : ℕ) → k < length code → Memᴰ l (branch_dests (at code k)) → Target l
    target k l h i =
        let d = sound.named k l h i in record { inside = d.inside; label = d.label; kept = label_kept (label_offset code l) l d.label }

    edge_inside : (e : ℕ) → e < 2 * length code → e / 2 < length code
    edge_inside e h = omega arith

    -- of an edge that loses
    pub losing_target : (e : ℕ) → e < 2 * length code → 0 < length (lost_refs code info refs e) → Target (target_of code e)
    losing_target e h s = target (e / 2) (target_of code e) (edge_inside e h) (target_named code info refs e (losing_branch code info refs e s))

    data Marks (p l : ℕ) : Type 0 where
      old : (i : ℕ) → i < length code → Memᴰ l (label_of (at code i)) → p ≡ pos code info i → Marks p l
      new : (e : ℕ) → e < 2 * length code → is_losing code info refs e ≡ true → l ≡ label_for code info refs e → p ≡ start_of code info refs e → Marks p l

    marks : (p l : ℕ) → p < length (transform_code code info refs) → Memᴰ l (label_of (at (transform_code code info refs) p)) → Marks p l
    marks p l h m = go (where_is code info refs p (omega (arith, new_length code info refs)))
      where
        part : (e j : ℕ) → e < 2 * length code → p ≡ start_of code info refs e + j → j < block_size (lost_refs code info refs e)
            → Part (attr_for code info refs e) (label_for code info refs e) (target_of code e) (lost_refs code info refs e) j (at (transform_code code info refs) p) → Marks p l
        part e j b s w (Part.head z q) =
            new e b (some_losing code info refs e (size_some (lost_refs code info refs e) (omega arith))) (Memᴰ.eq_of_singleton (subst (λ (x : List ℕ). Memᴰ l x) (ap label_of q ∙ head_marks _ _) m)) (omega arith)
        part e j b s w (Part.destroy i g z q) = absurd (Memᴰ.not-nil (subst (λ (x : List ℕ). Memᴰ l x) (ap label_of q ∙ destroy_marks _ _) m))
        part e j b s w (Part.last z q) = absurd (Memᴰ.not-nil (subst (λ (x : List ℕ). Memᴰ l x) (ap label_of q ∙ last_marks _ _) m))

        go : Where code info refs p → Marks p l
        go (Where.kept i b e s) = old i b (subst (λ (x : List ℕ). Memᴰ l x) (ap label_of (ap (at (transform_code code info refs)) s ∙ new_kept code info refs i b e) ∙ stands_label code info refs i) m) s
        go (Where.added e j b w s) = part e j b s w (subst (λ (x : ℕ). Part (attr_for code info refs e) (label_for code info refs e) (target_of code e) (lost_refs code info refs e) j (at (transform_code code info refs) x)) (sym s) (added_part code info refs e j b w))

    label_new : (e : ℕ) → next_free_label code ≤ label_for code info refs e
    unfolding label_for
    label_new e = omega arith

    label_one : (e e' : ℕ) → is_losing code info refs e ≡ true → is_losing code info refs e' ≡ true → label_for code info refs e ≡ label_for code info refs e' → e ≡ e'
    unfolding label_for
    label_one e e' f g s = count_one e e' (is_losing code info refs) f g (omega arith)

    pub new_unique : Unique (transform_code code info refs)
    new_unique = record { one = λ p p' l h h' m m'. go p p' l (marks p l h m) (marks p' l h' m') }
      where
        go : (p p' l : ℕ) → Marks p l → Marks p' l → p ≡ p'
        go p p' l (old i b m s) (old i' b' m' s') = s ∙ ap (pos code info) (unique.one i i' l b b' m m') ∙ sym s'
        go p p' l (old i b m s) (new e b' f q s') = absurd (omega (arith, label_below code i l b m, label_new e))
        go p p' l (new e b f q s) (old i b' m s') = absurd (omega (arith, label_below code i l b' m, label_new e))
        go p p' l (new e b f q s) (new e' b' f' q' s') = s ∙ ap (start_of code info refs) (label_one e e' f f' (sym q ∙ q')) ∙ sym s'

    -- label l stands at offset o of the new code
    record NewLabel (l o : ℕ) : Type 0 where
      inside : o < length (transform_code code info refs)
      label : Memᴰ l (label_of (at (transform_code code info refs) o))

    new_defined : (l o : ℕ) → NewLabel l o → Defined (transform_code code info refs) l
    new_defined l o n = label_defined (transform_code code info refs) o l n.inside n.label

    new_offset : (l o : ℕ) → NewLabel l o → label_offset (transform_code code info refs) l ≡ o
    new_offset l o n = offset_is (transform_code code info refs) new_unique o l n.inside n.label

    -- an old label's new offset
    old_stands : (l : ℕ) → Target l → NewLabel l (pos code info (label_offset code l))
    old_stands l t = record {
      inside = pos_inside code info refs (label_offset code l) t.inside t.kept;
      label = subst (λ (x : List ℕ). Memᴰ l x) (sym (ap label_of (new_kept code info refs (label_offset code l) t.inside t.kept) ∙ stands_label code info refs (label_offset code l))) t.label;
    }

    pub offset_old : (l : ℕ) → Target l → label_offset (transform_code code info refs) l ≡ pos code info (label_offset code l)
    offset_old l t = new_offset l (pos code info (label_offset code l)) (old_stands l t)

    -- a new label's offset
    new_stands : (e : ℕ) → e < 2 * length code → 0 < length (lost_refs code info refs e) → NewLabel (label_for code info refs e) (start_of code info refs e)
    new_stands e h s =
        let w : 0 < block_size (lost_refs code info refs e) = omega (arith, size_is (lost_refs code info refs e) s) in
        let z : start_of code info refs e + 0 ≡ start_of code info refs e = omega arith in
        let is : at (transform_code code info refs) (start_of code info refs e) ≡ made Label 0 (attr_for code info refs e) (label_for code info refs e) [] = ap (at (transform_code code info refs)) (sym z) ∙ new_added code info refs e 0 h w ∙ first e s in
        record { inside = omega (arith, added_inside code info refs e 0 h w); label = subst (λ (x : List ℕ). Memᴰ (label_for code info refs e) x) (sym (ap label_of is ∙ head_marks _ _)) (Memᴰ.head refl) }
      where
        first : (e : ℕ) → 0 < length (lost_refs code info refs e) → get_or (block_on code info refs e) 0 nop ≡ made Label 0 (attr_for code info refs e) (label_for code info refs e) []
        first e s = unfold block_on in block_head (attr_for code info refs e) (label_for code info refs e) (target_of code e) (lost_refs code info refs e) s

    pub offset_new : (e : ℕ) → e < 2 * length code → 0 < length (lost_refs code info refs e) → label_offset (transform_code code info refs) (label_for code info refs e) ≡ start_of code info refs e
    offset_new e h s = new_offset (label_for code info refs e) (start_of code info refs e) (new_stands e h s)

    -- ---- where the edges go

    -- an edge that loses goes to its block, any other to where its target stands now
    pub data GoesTo (e : ℕ) : Type 0 where
      round : 0 < length (lost_refs code info refs e) → label_offset (transform_code code info refs) (goes_to code info refs e) ≡ start_of code info refs e → GoesTo e
      straight : lost_refs code info refs e ≡ [] → label_offset (transform_code code info refs) (goes_to code info refs e) ≡ pos code info (label_offset code (target_of code e)) → GoesTo e

    empty : (xs : List ℕ) → length xs ≤ 0 → xs ≡ []
    empty [] h = refl
    empty (x ∷ xs) h = absurd (not-suc-le-zero h)

    away : (e : ℕ) → is_losing code info refs e ≡ true → goes_to code info refs e ≡ label_for code info refs e
    unfolding goes_to
    away e f = ap (λ (b : Bool). cond b (label_for code info refs e) (target_of code e)) f

    stays : (e : ℕ) → is_losing code info refs e ≡ false → goes_to code info refs e ≡ target_of code e
    unfolding goes_to
    stays e f = ap (λ (b : Bool). cond b (label_for code info refs e) (target_of code e)) f

    pub goes : (e : ℕ) → e < 2 * length code → Target (target_of code e) → GoesTo e
    goes e h t =
        by_test (λ b. is_losing code info refs e ≡ b → GoesTo e) (is_losing code info refs e)
        (λ f q. round (losing_some code info refs e f) (ap (label_offset (transform_code code info refs)) (away e f) ∙ offset_new e h (losing_some code info refs e f)))
        (λ f q. straight (none f) (ap (label_offset (transform_code code info refs)) (stays e f) ∙ offset_old (target_of code e) t)) refl
      where
        none : is_losing code info refs e ≡ false → lost_refs code info refs e ≡ []
        none f = unfold is_losing in empty (lost_refs code info refs e) (omega (arith, ltb-false 0 (length (lost_refs code info refs e)) f))

    -- ---- the new code is sound

    -- what stands for offset k names the labels that its edges go to, or what it named
    pub data Names (k l : ℕ) : Type 0 where
      same : Memᴰ l (branch_dests (at code k)) → (at code k).kind ≢ 4 → Names k l
      edge : (e : ℕ) → e / 2 ≡ k → e < 2 * length code → (at code k).kind ≡ Branch → l ≡ goes_to code info refs e → Names k l

    pub stands_names : (k l : ℕ) → k < length code → Memᴰ l (branch_dests (stands_for code info refs k)) → Names k l
    stands_names k l h =
        by_stands code info refs (λ r. Memᴰ l (branch_dests r) → Names k l) k
        (λ e i. ⊎_elim (λ s. edge (2 * k) (omega arith) (omega arith) e s) (λ t. edge (suc (2 * k)) (omega arith) (omega arith) e (Memᴰ.eq_of_singleton t))
        (Memᴰ.cases_cons (subst (λ (x : List ℕ). Memᴰ l x) (branch_names (aimed (at code k) (goes_to code info refs (2 * k)) (goes_to code info refs (suc (2 * k)))) e) i)))
        (λ e i. same (unfold branch_dests is_flagged in i) (λ q. omega (arith, (is_merged_lem code info k e).call)))
        (λ q e i. same i q)

    edge_target_is : (k e : ℕ) → k < length code → e / 2 ≡ k → (at code k).kind ≡ Branch → Target (target_of code e)
    edge_target_is k e h s q =
        target (e / 2) (target_of code e) (omega arith) (target_named code info refs e (ap (λ (x : ℕ). (at code x).kind) s ∙ q))

    old_defined : (l : ℕ) → Target l → Defined (transform_code code info refs) l
    old_defined l t = new_defined l (pos code info (label_offset code l)) (old_stands l t)

    goes_defined : (e : ℕ) → e < 2 * length code → Target (target_of code e) → Defined (transform_code code info refs) (goes_to code info refs e)
    goes_defined e h t =
        by_test (λ b. is_losing code info refs e ≡ b → Defined (transform_code code info refs) (goes_to code info refs e)) (is_losing code info refs e)
        (λ f q. subst (Defined (transform_code code info refs)) (sym (away e f)) (new_defined (label_for code info refs e) (start_of code info refs e) (new_stands e h (losing_some code info refs e f))))
        (λ f q. subst (Defined (transform_code code info refs)) (sym (stays e f)) (old_defined (target_of code e) t)) refl

    pub last_kept : is_dropped code info (length code - 1) ≡ false
    last_kept =
        by_test (λ t. is_dropped code info (length code - 1) ≡ t → is_dropped code info (length code - 1) ≡ false) (is_dropped code info (length code - 1))
        (λ e q. absurd (true≢false (sym (gone_falls code info (is_gone code info (length code - 1) e)) ∙ sound.closed))) (λ e q. e) refl

    pub new_sound : Sound (transform_code code info refs)
    new_sound = record {
      some = omega (arith, pos_inside code info refs (length code - 1) (omega (arith, sound.some)) last_kept);
      stops = λ p h. stops p h (where_is code info refs p (omega (arith, new_length code info refs)));
      named = λ p l h m. named p l h m (where_is code info refs p (omega (arith, new_length code info refs)));
      closed = closed (length (transform_code code info refs) - 1) (omega (arith, pos_inside code info refs (length code - 1) (omega (arith, sound.some)) last_kept)) (where_is code info refs (length (transform_code code info refs) - 1) (omega (arith, new_length code info refs, pos_inside code info refs (length code - 1) (omega (arith, sound.some)) last_kept)));
    }
      where
        -- a new block has no Stop
        stop_part : (e j p : ℕ) → Part (attr_for code info refs e) (label_for code info refs e) (target_of code e) (lost_refs code info refs e) j (at (transform_code code info refs) p) → stop_ok (at (transform_code code info refs) p) ≡ true
        stop_part e j p (Part.head z q) = ap stop_ok q ∙ unfold stop_ok is_flagged in refl
        stop_part e j p (Part.destroy i g z q) = ap stop_ok q ∙ unfold stop_ok is_flagged in refl
        stop_part e j p (Part.last z q) = ap stop_ok q ∙ unfold stop_ok is_flagged in refl

        stops : (p : ℕ) → p < length (transform_code code info refs) → Where code info refs p → stop_ok (at (transform_code code info refs) p) ≡ true
        stops p h (Where.kept i b e s) = ap stop_ok (ap (at (transform_code code info refs)) s ∙ new_kept code info refs i b e) ∙ stands_stop code info refs i ∙ sound.stops i b
        stops p h (Where.added e j b w s) = stop_part e j p (subst (λ (x : ℕ). Part (attr_for code info refs e) (label_for code info refs e) (target_of code e) (lost_refs code info refs e) j (at (transform_code code info refs) x)) (sym s) (added_part code info refs e j b w))

        by_name : (k l : ℕ) → k < length code → Names k l → Defined (transform_code code info refs) l
        by_name k l h (same i q) = old_defined l (target k l h i)
        by_name k l h (edge e s b q z) =
            let t = edge_target_is k e h s q in
            subst (Defined (transform_code code info refs)) (sym z) (goes_defined e b t)

        by_part : (e j p l : ℕ) → e < 2 * length code → j < block_size (lost_refs code info refs e) → Memᴰ l (branch_dests (at (transform_code code info refs) p))
            → Part (attr_for code info refs e) (label_for code info refs e) (target_of code e) (lost_refs code info refs e) j (at (transform_code code info refs) p)
            → Defined (transform_code code info refs) l
        by_part e j p l b w m (Part.head z q) = absurd (Memᴰ.not-nil (subst (λ (x : List ℕ). Memᴰ l x) (ap branch_dests q ∙ head_names _ _) m))
        by_part e j p l b w m (Part.destroy i g z q) = absurd (Memᴰ.not-nil (subst (λ (x : List ℕ). Memᴰ l x) (ap branch_dests q ∙ destroy_names _ _) m))
        by_part e j p l b w m (Part.last z q) =
            let s : l ≡ target_of code e = Memᴰ.eq_of_singleton (subst (λ (x : List ℕ). Memᴰ l x) (ap branch_dests q ∙ last_names _ _) m) in
            subst (Defined (transform_code code info refs)) (sym s) (old_defined (target_of code e) (losing_target e b (size_some (lost_refs code info refs e) (omega arith))))

        named : (p l : ℕ) → p < length (transform_code code info refs) → Memᴰ l (branch_dests (at (transform_code code info refs) p)) → Where code info refs p → Defined (transform_code code info refs) l
        named p l h m (Where.kept i b e s) = by_name i l b (stands_names i l b (subst (λ (r : Bytecode). Memᴰ l (branch_dests r)) (ap (at (transform_code code info refs)) s ∙ new_kept code info refs i b e) m))
        named p l h m (Where.added e j b w s) = by_part e j p l b w m (subst (λ (x : ℕ). Part (attr_for code info refs e) (label_for code info refs e) (target_of code e) (lost_refs code info refs e) j (at (transform_code code info refs) x)) (sym s) (added_part code info refs e j b w))

        ended : (e j : ℕ) → e < 2 * length code → suc (start_of code info refs e + j) ≡ length (transform_code code info refs) → j < block_size (lost_refs code info refs e) → suc j ≡ block_size (lost_refs code info refs e)
        ended e j b s w = by_eq (suc j) (block_size (lost_refs code info refs e)) (λ q. q) (λ q. absurd (omega (arith, added_inside code info refs e (suc j) b (omega arith))))

        closed_part : (e j p : ℕ) → suc j ≡ block_size (lost_refs code info refs e)
            → Part (attr_for code info refs e) (label_for code info refs e) (target_of code e) (lost_refs code info refs e) j (at (transform_code code info refs) p) → falls_through (at (transform_code code info refs) p) ≡ false
        closed_part e j p s (Part.head z q) = absurd (omega (arith, size_is (lost_refs code info refs e) (size_some (lost_refs code info refs e) (omega arith)), size_some (lost_refs code info refs e) (omega arith)))
        closed_part e j p s (Part.destroy i g z q) = absurd (omega (arith, size_is (lost_refs code info refs e) (size_some (lost_refs code info refs e) (omega arith))))
        closed_part e j p s (Part.last z q) = ap falls_through q ∙ jump_falls (made Jump 0 _ _ []) refl

        closed : (p : ℕ) → suc p ≡ length (transform_code code info refs) → Where code info refs p → falls_through (at (transform_code code info refs) p) ≡ false
        closed p h (Where.kept i b e s) =
            by_eq (suc i) (length code)
            (λ q. let z : i ≡ length code - 1 = omega arith in
            ap falls_through (ap (at (transform_code code info refs)) s ∙ new_kept code info refs i b e) ∙ stands_falls code info refs i ∙ ap (λ (x : ℕ). falls_through (at code x)) z ∙ sound.closed)
            (λ q. absurd (omega (arith, pos_inside code info refs (length code - 1) (omega arith) last_kept, pos_lt code info i (length code - 1) e (omega arith))))
        closed p h (Where.added e j b w s) =
            closed_part e j p (ended e j b (omega arith) w) (subst (λ (x : ℕ). Part (attr_for code info refs e) (label_for code info refs e) (target_of code e) (lost_refs code info refs e) j (at (transform_code code info refs) x)) (sym s) (added_part code info refs e j b w))
