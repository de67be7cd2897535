-- The walk by offset gives the new code. Assumes nothing.
use Rattle.std.specs.Prelude.{◌≡◌, ◌≢◌, Bool, ◌||◌, ◌&&◌, get_or, drop, refl, true, false, cond, List, [], ◌∷◌, ◌++◌, ℕ, zero, suc, ◌+◌, ◌*◌, ◌/◌, ◌<◌, eqb, ltb, length}
use Rattle.std.proofs.Common.{sym, ap, ap₂, subst, ◌∙◌, true≢false, add-zero, zero-add, eq-eqb, ne_eqb, drop-cons, ⊎_elim, append_assoc, append-nil, arith}
use Rattle.std.specs.Int.Bits.{bit_and}
use Rattle.std.proofs.Math.Seq.{drop-length}
use Rattle.dataflow_domains.specs.Mask.{holds, minus}
use Rattle.stackless_bytecode.specs.declared.Bytecode.{Bytecode}
use Rattle.base.specs.Sizes.{max_locals}
use Rattle.base.specs.Lists.{keep, count, total, joins}
use Rattle.stackless_bytecode.specs.Kinds.{Assign, Call, Branch, nop, at}
use Rattle.stackless_bytecode.specs.Labels.{label_offset}
use Rattle.livevar_analysis.specs.Analysis.{LiveVarInfo}
use Rattle.livevar_transform.specs.Rewrite.{aimed, into, destroy_block, block_size, info_at, is_dead, is_merged, is_dropped, target_of, next_free_label, next_free_attr, lost_refs, is_losing, label_for, attr_for, goes_to, stands_for, kept_code, block_on, added_code, transform_code}
use Rattle.livevar_transform.specs.Walk.{Tail, edge_tail, edge_label, Done, front, merges_into, dead_in, lost_to, walk, walked, Walked}
use Rattle.base.specs.ListLaws.{by_test, by_eq}
use Rattle.base.specs.JoinLaws.{count_in, count_out}
use Rattle.livevar_transform.specs.PieceLaws.{is_dead_lem, is_merged_lem}
use Rattle.livevar_transform.specs.PlaceLaws.{some_losing, by_stands, edge_target, edge_target_else}

-- the tests of a merge in one row
regroup : (x c d e : Bool) → x && (c && d && e) ≡ x && c && d && e
regroup true c d e = refl
regroup false c d e = refl

module _ (code : List Bytecode) (info : List LiveVarInfo) (refs : ℕ) where
  -- ---- the tail by edge

  -- before edge e
  edge_at : ℕ → Tail
  edge_at e = record { label = label_for code info refs e; attr = attr_for code info refs e; code = joins e (block_on code info refs) }

  tail_path : {l l' a a' : ℕ} {c c' : List Bytecode} → l ≡ l' → a ≡ a' → c ≡ c' → ◌≡◌ {A = Tail} (record { label = l; attr = a; code = c }) (record { label = l'; attr = a'; code = c' })
  tail_path p q r = λ i. record { label = p i; attr = q i; code = r i }

  edge_none : (e : ℕ) → lost_refs code info refs e ≡ [] → edge_at (suc e) ≡ edge_at e
  unfolding edge_at label_for attr_for joins total block_on destroy_block block_size
  edge_none e z =
      tail_path
      (ap (λ (x : ℕ). next_free_label code + x) (count_out e (is_losing code info refs) (unfold is_losing in ap (λ (l : List ℕ). ltb 0 (length l)) z)))
      (let none : block_size (lost_refs code info refs e) ≡ 0 = ap block_size z in omega (arith, none))
      (ap (λ (l : List ℕ). joins e (block_on code info refs) ++ destroy_block (attr_for code info refs e) (label_for code info refs e) (target_of code e) l) z ∙ append-nil _)

  losing_cons : (e x : ℕ) (xs : List ℕ) → lost_refs code info refs e ≡ x ∷ xs → is_losing code info refs e ≡ true
  losing_cons e x xs z = some_losing code info refs e (subst (λ (l : List ℕ). 0 < length l) (sym z) (omega arith))

  edge_some : (e x : ℕ) (xs : List ℕ) → lost_refs code info refs e ≡ x ∷ xs → edge_at (suc e) ≡ edge_tail (edge_at e) (target_of code e) (x ∷ xs)
  unfolding edge_at label_for attr_for joins total block_on edge_tail block_size
  edge_some e x xs z =
      tail_path
      (let more : count (suc e) (is_losing code info refs) ≡ suc (count e (is_losing code info refs)) = count_in e (is_losing code info refs) (losing_cons e x xs z) in omega (arith, more))
      (let some : block_size (lost_refs code info refs e) ≡ 3 + length xs = ap block_size z in omega (arith, some))
      (ap (λ (l : List ℕ). joins e (block_on code info refs) ++ destroy_block (attr_for code info refs e) (label_for code info refs e) (target_of code e) l) z)

  edge_step : (e : ℕ) → edge_tail (edge_at e) (target_of code e) (lost_refs code info refs e) ≡ edge_at (suc e)
  edge_step e = go (lost_refs code info refs e) refl
    where
      go : (l : List ℕ) → lost_refs code info refs e ≡ l → edge_tail (edge_at e) (target_of code e) l ≡ edge_at (suc e)
      go [] z = unfold edge_tail in sym (edge_none e z)
      go (x ∷ xs) z = sym (edge_some e x xs z)

  edge_goes : (e : ℕ) → edge_label (edge_at e) (target_of code e) (lost_refs code info refs e) ≡ goes_to code info refs e
  edge_goes e = go (lost_refs code info refs e) refl
    where
      go : (l : List ℕ) → lost_refs code info refs e ≡ l → edge_label (edge_at e) (target_of code e) l ≡ goes_to code info refs e
      go [] z = unfold edge_label goes_to is_losing in sym (ap (λ (l : List ℕ). cond (ltb 0 (length l)) (label_for code info refs e) (target_of code e)) z)
      go (x ∷ xs) z = unfold edge_label edge_at goes_to in sym (ap (λ (b : Bool). cond b (label_for code info refs e) (target_of code e)) (losing_cons e x xs z))

  -- before offset k
  tail_at : ℕ → Tail
  tail_at k = edge_at (2 * k)

  tail_next : (k : ℕ) → tail_at (suc k) ≡ edge_at (suc (suc (2 * k)))
  unfolding tail_at
  tail_next k = let s : 2 * suc k ≡ suc (suc (2 * k)) = omega arith in ap edge_at s

  -- ---- the references by edge

  lost_branch : (k e : ℕ) → (at code k).kind ≡ Branch → e / 2 ≡ k → lost_to code info refs (info_at info k).after (target_of code e) ≡ lost_refs code info refs e
  unfolding lost_to lost_refs
  lost_branch k e q s =
      ap (λ (x : ℕ). keep max_locals 0 (holds (minus (bit_and (info_at info x).after refs) (info_at info (label_offset code (target_of code e))).before))) (sym s)
      ∙ sym (ap (λ (b : Bool). elim b as (λ _. List ℕ) [ true ↦ keep max_locals 0 (holds (minus (bit_and (info_at info (e / 2)).after refs) (info_at info (label_offset code (target_of code e))).before)) | false ↦ [] ]) (eq-eqb (at code (e / 2)).kind Branch (ap (λ (x : ℕ). (at code x).kind) s ∙ q)))

  lost_other : (k e : ℕ) → (at code k).kind ≢ 4 → e / 2 ≡ k → lost_refs code info refs e ≡ []
  unfolding lost_refs
  lost_other k e q s =
      ap (λ (b : Bool). elim b as (λ _. List ℕ) [ true ↦ keep max_locals 0 (holds (minus (bit_and (info_at info (e / 2)).after refs) (info_at info (label_offset code (target_of code e))).before)) | false ↦ [] ]) (ne_eqb (at code (e / 2)).kind Branch (λ z. q (sym (ap (λ (x : ℕ). (at code x).kind) s) ∙ z)))

  tail_other : (k : ℕ) → (at code k).kind ≢ 4 → tail_at (suc k) ≡ tail_at k
  unfolding tail_at
  tail_other k q =
      tail_next k ∙ edge_none (suc (2 * k)) (lost_other k (suc (2 * k)) q (omega arith)) ∙ edge_none (2 * k) (lost_other k (2 * k) q (omega arith))

  tail_branch : (k : ℕ) → (at code k).kind ≡ Branch → tail_at (suc k) ≡ edge_tail (edge_tail (tail_at k) (at code k).one (lost_to code info refs (info_at info k).after (at code k).one)) (at code k).two (lost_to code info refs (info_at info k).after (at code k).two)
  unfolding tail_at
  tail_branch k q =
      tail_next k ∙ sym (edge_step (suc (2 * k)))
      ∙ ap₂ (λ (t : Tail) (l : List ℕ). edge_tail t (target_of code (suc (2 * k))) l) (sym (edge_step (2 * k)) ∙ ap (edge_tail (edge_at (2 * k)) (target_of code (2 * k))) (sym (lost_branch k (2 * k) q (omega arith)))) (sym (lost_branch k (suc (2 * k)) q (omega arith)))
      ∙ ap₂ (λ (x y : ℕ). edge_tail (edge_tail (edge_at (2 * k)) x (lost_to code info refs (info_at info k).after x)) y (lost_to code info refs (info_at info k).after y)) (edge_target code info refs k) (edge_target_else code info refs k)

  goes_branch : (k : ℕ) → (at code k).kind ≡ Branch
      → (edge_label (tail_at k) (at code k).one (lost_to code info refs (info_at info k).after (at code k).one) ≡ goes_to code info refs (2 * k))
      × (edge_label (edge_tail (tail_at k) (at code k).one (lost_to code info refs (info_at info k).after (at code k).one)) (at code k).two (lost_to code info refs (info_at info k).after (at code k).two) ≡ goes_to code info refs (suc (2 * k)))
  unfolding tail_at
  goes_branch k q = (
    ap (λ (x : ℕ). edge_label (edge_at (2 * k)) x (lost_to code info refs (info_at info k).after x)) (sym (edge_target code info refs k))
        ∙ ap (edge_label (edge_at (2 * k)) (target_of code (2 * k))) (lost_branch k (2 * k) q (omega arith)) ∙ edge_goes (2 * k),
    ap₂ (λ (x y : ℕ). edge_label (edge_tail (edge_at (2 * k)) x (lost_to code info refs (info_at info k).after x)) y (lost_to code info refs (info_at info k).after y)) (sym (edge_target code info refs k)) (sym (edge_target_else code info refs k))
        ∙ ap₂ (λ (l m : List ℕ). edge_label (edge_tail (edge_at (2 * k)) (target_of code (2 * k)) l) (target_of code (suc (2 * k))) m) (lost_branch k (2 * k) q (omega arith)) (lost_branch k (suc (2 * k)) q (omega arith))
        ∙ ap (λ (t : Tail). edge_label t (target_of code (suc (2 * k))) (lost_refs code info refs (suc (2 * k)))) (edge_step (2 * k)) ∙ edge_goes (suc (2 * k)),
  )

  -- ---- one offset of the walk

  -- the Assign at k was merged
  skip_at : ℕ → Bool
  skip_at zero = false
  skip_at (suc k) = is_merged code info k

  skip_dropped : (k : ℕ) → is_dropped code info k ≡ is_dead code info k || skip_at k
  unfolding skip_at is_dropped
  skip_dropped zero = by_test (λ b. b ≡ b || false) (is_dead code info 0) (λ e. refl) (λ e. refl)
  skip_dropped (suc k) = refl

  skip_kind : (k : ℕ) → skip_at k ≡ true → (at code k).kind ≡ Assign
  unfolding skip_at
  skip_kind zero e = absurd (true≢false (sym e))
  skip_kind (suc k) e = (is_merged_lem code info k e).assign

  -- the walk's choice at an instruction that is not skipped
  pick : Bytecode → List Bytecode → ℕ → Tail → Bool → Bool → Bool → Done
  pick r rs k t dead branch merged =
      elim dead [
        | true ↦ walk code info refs rs (suc k) false t
        | false ↦ elim branch [
          | true ↦
              let s = info_at info k in
              let t1 = edge_tail t r.one (lost_to code info refs s.after r.one) in
              front (aimed r (edge_label t r.one (lost_to code info refs s.after r.one)) (edge_label t1 r.two (lost_to code info refs s.after r.two)) ∷ []) (walk code info refs rs (suc k) false (edge_tail t1 r.two (lost_to code info refs s.after r.two)))
          | false ↦ elim merged [
            | true ↦ front (into r (at code (suc k)).dsts ∷ []) (walk code info refs rs (suc k) true t)
            | false ↦ front (r ∷ []) (walk code info refs rs (suc k) false t)
          ]
        ]
      ]

  merges_is : (k : ℕ) → eqb (at code k).kind Call && eqb (at code k).ndst 1 && merges_into (get_or (at code k).dsts 0 0) (at code (suc k)) (info_at info (suc k)) ≡ is_merged code info k
  unfolding merges_into is_merged
  merges_is k = regroup (eqb (at code k).kind Call && eqb (at code k).ndst 1) _ _ _

  pick_is : (k : ℕ) (rs : List Bytecode) (t : Tail) → walk code info refs (at code k ∷ rs) k false t ≡ pick (at code k) rs k t (is_dead code info k) (eqb (at code k).kind Branch) (is_merged code info k)
  unfolding walk pick dead_in is_dead
  pick_is k rs t = ap (pick (at code k) rs k t (is_dead code info k) (eqb (at code k).kind Branch)) (merges_is k)

  -- what offset k gives, in front of what the rest gives
  record Step (k : ℕ) (rs : List Bytecode) : Type 0 where
    gives : List Bytecode
    kept : kept_code code info refs k ≡ gives
    is : walk code info refs (at code k ∷ rs) k (skip_at k) (tail_at k) ≡ front gives (walk code info refs rs (suc k) (is_merged code info k) (tail_at (suc k)))

  kept_none : (k : ℕ) → is_dropped code info k ≡ true → kept_code code info refs k ≡ []
  unfolding kept_code
  kept_none k e = ap (λ (b : Bool). cond b [] (stands_for code info refs k ∷ [])) e

  kept_one : (k : ℕ) → is_dropped code info k ≡ false → (r : Bytecode) → stands_for code info refs k ≡ r → kept_code code info refs k ≡ r ∷ []
  unfolding kept_code
  kept_one k e r s = ap₂ (λ (b : Bool) (x : Bytecode). cond b [] (x ∷ [])) e s

  not_call : (k : ℕ) → (at code k).kind ≢ 1 → is_merged code info k ≡ false
  not_call k g =
      by_test (λ b. is_merged code info k ≡ b → is_merged code info k ≡ false) (is_merged code info k)
      (λ e q. absurd (g (is_merged_lem code info k e).call)) (λ e q. e) refl

  step : (k : ℕ) (rs : List Bytecode) → Step k rs
  step k rs =
      by_test (λ b. skip_at k ≡ b → Step k rs) (skip_at k) (λ e q. skipped e)
      (λ e q. by_test (λ b. is_dead code info k ≡ b → Step k rs) (is_dead code info k) (λ d z. dead e d)
      (λ d z. by_eq (at code k).kind 4 (branch e d)
      (λ g. by_test (λ b. is_merged code info k ≡ b → Step k rs) (is_merged code info k) (λ m y. merged e d g m) (λ m y. plain e d g m) refl)) refl) refl
    where
      -- the walk goes on without k
      off : (at code k).kind ≢ 1 → (at code k).kind ≢ 4 → walk code info refs rs (suc k) false (tail_at k) ≡ walk code info refs rs (suc k) (is_merged code info k) (tail_at (suc k))
      off c b = ap₂ (λ (x : Bool) (t : Tail). walk code info refs rs (suc k) x t) (sym (not_call k c)) (sym (tail_other k b))

      skipped : skip_at k ≡ true → Step k rs
      skipped e =
          let a = skip_kind k e in
          record {
            gives = [];
            kept = kept_none k (skip_dropped k ∙ ap (λ (b : Bool). is_dead code info k || b) e ∙ either (is_dead code info k));
            is = ap (λ (b : Bool). walk code info refs (at code k ∷ rs) k b (tail_at k)) e ∙ (unfold walk in off (λ z. omega arith) (λ z. omega arith));
          }
        where
          either : (x : Bool) → x || true ≡ true
          either true = refl
          either false = refl

      start : skip_at k ≡ false → (a b c : Bool) → is_dead code info k ≡ a → eqb (at code k).kind Branch ≡ b → is_merged code info k ≡ c
          → walk code info refs (at code k ∷ rs) k (skip_at k) (tail_at k) ≡ pick (at code k) rs k (tail_at k) a b c
      start e a b c p q r =
          ap (λ (x : Bool). walk code info refs (at code k ∷ rs) k x (tail_at k)) e ∙ pick_is k rs (tail_at k)
          ∙ ap₂ (λ (x y : Bool). pick (at code k) rs k (tail_at k) x y (is_merged code info k)) p q
          ∙ ap (pick (at code k) rs k (tail_at k) a b) r

      stays : skip_at k ≡ false → is_dead code info k ≡ false → is_dropped code info k ≡ false
      stays e d = skip_dropped k ∙ ap₂ ◌||◌ d e

      dead : skip_at k ≡ false → is_dead code info k ≡ true → Step k rs
      dead e d =
          let kinds = (is_dead_lem code info k d).kind in
          record {
            gives = [];
            kept = kept_none k (skip_dropped k ∙ ap (λ (b : Bool). b || skip_at k) d);
            is = start e true (eqb (at code k).kind Branch) (is_merged code info k) d refl refl ∙ (unfold pick in off (λ z. ⊎_elim (λ x. omega arith) (λ x. omega arith) kinds) (λ z. ⊎_elim (λ x. omega arith) (λ x. omega arith) kinds));
          }

      branch : skip_at k ≡ false → is_dead code info k ≡ false → (at code k).kind ≡ Branch → Step k rs
      branch e d q =
          let g = goes_branch k q in
          let r = at code k in
          record {
            gives = aimed r (edge_label (tail_at k) r.one (lost_to code info refs (info_at info k).after r.one)) (edge_label (edge_tail (tail_at k) r.one (lost_to code info refs (info_at info k).after r.one)) r.two (lost_to code info refs (info_at info k).after r.two)) ∷ [];
            kept = kept_one k (stays e d) _ (stands_branch q ∙ ap₂ (aimed r) (sym g.0) (sym g.1));
            is = start e false true (is_merged code info k) d (eq-eqb (at code k).kind Branch q) refl ∙ on q;
          }
        where
          stands_branch : (at code k).kind ≡ Branch → stands_for code info refs k ≡ aimed (at code k) (goes_to code info refs (2 * k)) (goes_to code info refs (suc (2 * k)))
          stands_branch q = by_stands code info refs (λ x. x ≡ aimed (at code k) (goes_to code info refs (2 * k)) (goes_to code info refs (suc (2 * k)))) k (λ z. refl) (λ z. absurd (omega (arith, (is_merged_lem code info k z).call))) (λ z m. absurd (z q))

          on : (at code k).kind ≡ Branch → pick (at code k) rs k (tail_at k) false true (is_merged code info k) ≡ front (aimed (at code k) (edge_label (tail_at k) (at code k).one (lost_to code info refs (info_at info k).after (at code k).one)) (edge_label (edge_tail (tail_at k) (at code k).one (lost_to code info refs (info_at info k).after (at code k).one)) (at code k).two (lost_to code info refs (info_at info k).after (at code k).two)) ∷ []) (walk code info refs rs (suc k) (is_merged code info k) (tail_at (suc k)))
          on q = unfold pick in ap₂ (λ (x : Bool) (t : Tail). front (aimed (at code k) (edge_label (tail_at k) (at code k).one (lost_to code info refs (info_at info k).after (at code k).one)) (edge_label (edge_tail (tail_at k) (at code k).one (lost_to code info refs (info_at info k).after (at code k).one)) (at code k).two (lost_to code info refs (info_at info k).after (at code k).two)) ∷ []) (walk code info refs rs (suc k) x t)) (sym (not_call k (λ z. omega arith))) (sym (tail_branch k q))

      merged : skip_at k ≡ false → is_dead code info k ≡ false → (at code k).kind ≢ 4 → is_merged code info k ≡ true → Step k rs
      merged e d g m = record {
        gives = into (at code k) (at code (suc k)).dsts ∷ [];
        kept = kept_one k (stays e d) _ (by_stands code info refs (λ x. x ≡ into (at code k) (at code (suc k)).dsts) k (λ z. absurd (g z)) (λ z. refl) (λ z n. absurd (true≢false (sym m ∙ n))));
        is = start e false false true d (ne_eqb (at code k).kind Branch g) m ∙ (unfold pick in ap₂ (λ (x : Bool) (t : Tail). front (into (at code k) (at code (suc k)).dsts ∷ []) (walk code info refs rs (suc k) x t)) (sym m) (sym (tail_other k g)));
      }

      plain : skip_at k ≡ false → is_dead code info k ≡ false → (at code k).kind ≢ 4 → is_merged code info k ≡ false → Step k rs
      plain e d g m = record {
        gives = at code k ∷ [];
        kept = kept_one k (stays e d) _ (by_stands code info refs (λ x. x ≡ at code k) k (λ z. absurd (g z)) (λ z. absurd (true≢false (sym z ∙ m))) (λ z n. refl));
        is = start e false false false d (ne_eqb (at code k).kind Branch g) m ∙ (unfold pick in ap₂ (λ (x : Bool) (t : Tail). front (at code k ∷ []) (walk code info refs rs (suc k) x t)) (sym m) (sym (tail_other k g)));
      }

  -- ---- the whole walk

  record Walks (k : ℕ) (d : Done) : Type 0 where
    code_is : joins k (kept_code code info refs) ++ d.code ≡ joins (length code) (kept_code code info refs)
    tail_is : d.tail ≡ tail_at (length code)

  ended : (k : ℕ) (skip : Bool) → k ≡ length code → Walks k (walk code info refs [] k skip (tail_at k))
  unfolding walk
  ended k skip end = record { code_is = append-nil _ ∙ ap (λ (x : ℕ). joins x (kept_code code info refs)) end; tail_is = ap tail_at end }

  walks : (d k : ℕ) → k + d ≡ length code → Walks k (walk code info refs (drop k code) k (skip_at k) (tail_at k))
  walks zero k s =
      let end : k ≡ length code = omega arith in
      subst (λ (x : List Bytecode). Walks k (walk code info refs x k (skip_at k) (tail_at k))) (sym (ap (λ (x : ℕ). drop x code) end ∙ drop-length code))
      (ended k (skip_at k) end)
  walks (suc d) k s =
      subst (λ (x : List Bytecode). Walks k (walk code info refs x k (skip_at k) (tail_at k))) (sym (drop-cons code k nop (omega arith))) (on (step k (drop (suc k) code)) (walks d (suc k) (omega arith)))
    where
      on : Step k (drop (suc k) code) → Walks (suc k) (walk code info refs (drop (suc k) code) (suc k) (skip_at (suc k)) (tail_at (suc k))) → Walks k (walk code info refs (at code k ∷ drop (suc k) code) k (skip_at k) (tail_at k))
      on st w =
          subst (Walks k) (sym st.is) (record {
            code_is = sym (append_assoc (joins k (kept_code code info refs)) st.gives _) ∙ ap (λ (l : List Bytecode). (joins k (kept_code code info refs) ++ l) ++ (walk code info refs (drop (suc k) code) (suc k) (is_merged code info k) (tail_at (suc k))).code) (sym st.kept) ∙ (unfold joins skip_at in w.code_is);
            tail_is = unfold skip_at in w.tail_is;
          })

  first : tail_at 0 ≡ record { label = next_free_label code; attr = next_free_attr code; code = [] }
  unfolding tail_at edge_at label_for attr_for count total joins
  first = tail_path (add-zero (next_free_label code)) (add-zero (next_free_attr code)) refl

  whole : Walks 0 (walked code info refs)
  unfolding walked
  whole = subst (λ (t : Tail). Walks 0 (walk code info refs code 0 false t)) first (unfold skip_at in walks (length code) 0 (zero-add (length code)))

  pub walk_is : Walked code info refs
  unfolding transform_code added_code tail_at edge_at joins
  walk_is = record {
    new = ap₂ ◌++◌ whole.code_is (ap (λ (t : Tail). t.code) whole.tail_is);
    added = ap (λ (t : Tail). t.code) whole.tail_is;
    label = ap (λ (t : Tail). t.label) whole.tail_is;
    attr = ap (λ (t : Tail). t.attr) whole.tail_is;
  }
