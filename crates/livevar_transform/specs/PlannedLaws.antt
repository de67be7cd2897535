-- The code that a plan says is the new code. Assumes nothing.
use Rattle.std.specs.Prelude.{◌≡◌, Bool, ◌||◌, ◌&&◌, ℕ, zero, suc, ◌+◌, ◌*◌, ◌≤◌, ◌<◌, ltb, refl, cond, List, [], ◌∷◌, ◌++◌, eqb, leb, length}
use Rattle.std.proofs.Common.{sym, ap, ap₂, ◌∙◌, add-zero, add-one, eq-eqb, ne_eqb, arith}
use Rattle.base.specs.Sizes.{max_number}
use Rattle.base.specs.Lists.{count, total, joins}
use Rattle.base.specs.ListLaws.{by_test, by_eq}
use Rattle.stackless_bytecode.specs.declared.Bytecode.{Bytecode}
use Rattle.stackless_bytecode.specs.Kinds.{Branch, at}
use Rattle.sheet_writer.specs.SheetLaws.{joins_agree}
use Rattle.livevar_analysis.specs.Analysis.{LiveVarInfo}
use Rattle.livevar_transform.specs.declared.plan.Fate.{Fate}
use Rattle.livevar_transform.specs.declared.plan.Next.{Next}
use Rattle.livevar_transform.specs.Rewrite.{aimed, into, destroy_block, block_size, target_of, next_free_label, next_free_attr, lost_refs, is_losing, label_for, attr_for, goes_to, stands_for, kept_code, block_on, added_code, transform_code, numbers_fit}
use Rattle.livevar_transform.specs.PlaceLaws.{edge_target, edge_target_else}
use Rattle.livevar_transform.specs.Plan.{goes, merges, lost_at, Planned, past, numbers_at, goes_at, aimed_at, stands_at, kept_at, added_at, kept_by, added_by, code_by}
use Rattle.livevar_transform.specs.PlanLaws.{fate_goes, fate_merges}
use Rattle.livevar_transform.specs.NumberLaws.{written_is}
use Rattle.livevar_transform.specs.RewriteWork.{fit_between}

module _ (code : List Bytecode) (info : List LiveVarInfo) (refs : ℕ) where
  label_next : (e : ℕ) → label_for code info refs (suc e) ≡ label_for code info refs e + cond (ltb 0 (length (lost_refs code info refs e))) 1 0
  unfolding label_for count is_losing
  label_next e =
      by_test (λ b. next_free_label code + cond b (suc (count e (is_losing code info refs))) (count e (is_losing code info refs)) ≡ next_free_label code + count e (is_losing code info refs) + cond b 1 0) (ltb 0 (length (lost_refs code info refs e)))
      (λ t. omega arith) (λ t. omega arith)

  attr_next : (e : ℕ) → attr_for code info refs (suc e) ≡ attr_for code info refs e + block_size (lost_refs code info refs e)
  unfolding attr_for total
  attr_next e = omega arith

  module _ (fates : List Fate) (lost : List ℕ) (n : ℕ) (first : Next) (p : Planned code info refs fates lost n) (size : length code ≡ n) (label : first.label ≡ next_free_label code) (attr : first.attr ≡ next_free_attr code) where
    label_is : (e : ℕ) → e ≤ 2 * n → (numbers_at first lost e).label ≡ label_for code info refs e
    label_is zero l = unfold numbers_at label_for count in label ∙ sym (add-zero (next_free_label code))
    label_is (suc e) l =
        let next : (numbers_at first lost (suc e)).label ≡ (numbers_at first lost e).label + cond (ltb 0 (length (lost_at lost e))) 1 0 = unfold numbers_at in refl in
        next ∙ ap₂ (λ (x : ℕ) (xs : List ℕ). x + cond (ltb 0 (length xs)) 1 0) (label_is e (omega arith)) (sym (p.edge e (omega arith))) ∙ sym (label_next e)

    attr_is : (e : ℕ) → e ≤ 2 * n → (numbers_at first lost e).attr ≡ attr_for code info refs e
    attr_is zero l = unfold numbers_at attr_for total in attr ∙ sym (add-zero (next_free_attr code))
    attr_is (suc e) l =
        let next : (numbers_at first lost (suc e)).attr ≡ (numbers_at first lost e).attr + block_size (lost_at lost e) = unfold numbers_at in refl in
        next ∙ ap₂ (λ (x : ℕ) (xs : List ℕ). x + block_size xs) (attr_is e (omega arith)) (sym (p.edge e (omega arith))) ∙ sym (attr_next e)

    goes_is : (e old : ℕ) → e < 2 * n → old ≡ target_of code e → goes_at (lost_at lost e) old (numbers_at first lost e).label ≡ goes_to code info refs e
    unfolding goes_to is_losing
    goes_is e old l q =
        ap₂ (λ (x y : ℕ). cond (ltb 0 (length (lost_at lost e))) x y) (label_is e (omega arith)) q
        ∙ ap (λ (xs : List ℕ). cond (ltb 0 (length xs)) (label_for code info refs e) (target_of code e)) (sym (p.edge e l))

    aimed_is : (k : ℕ) → k < n → aimed_at lost k (numbers_at first lost (2 * k)) (at code k) ≡ aimed (at code k) (goes_to code info refs (2 * k)) (goes_to code info refs (suc (2 * k)))
    unfolding aimed_at
    aimed_is k l =
        ap₂ (aimed (at code k)) (goes_is (2 * k) (at code k).one (omega arith) (sym (edge_target code info refs k)))
        (ap (λ (e : ℕ). goes_at (lost_at lost e) (at code k).two (past (numbers_at first lost (2 * k)) (lost_at lost (2 * k))).label) (add-one (2 * k)) ∙ second)
      where
        second : goes_at (lost_at lost (suc (2 * k))) (at code k).two (past (numbers_at first lost (2 * k)) (lost_at lost (2 * k))).label ≡ goes_to code info refs (suc (2 * k))
        second = unfold numbers_at in goes_is (suc (2 * k)) (at code k).two (omega arith) (sym (edge_target_else code info refs k))

    stands_is : (k : ℕ) → k < n → stands_at code fates lost k (numbers_at first lost (2 * k)) ≡ stands_for code info refs k
    unfolding stands_at stands_for
    stands_is k l =
        ap₂ (λ (x : Bytecode) (b : Bool). cond (eqb (at code k).kind Branch) x (cond b (into (at code k) (at code (suc k)).dsts) (at code k))) (aimed_is k l)
        (ap merges (p.fate k l) ∙ fate_merges code info k)

    kept_is : (k : ℕ) → k < n → kept_by code fates lost first k ≡ kept_code code info refs k
    unfolding kept_at kept_code
    kept_is k l = ap₂ (λ (b : Bool) (x : Bytecode). cond b [] (x ∷ [])) (ap goes (p.fate k l) ∙ fate_goes code info k) (stands_is k l)

    added_is : (e : ℕ) → e < 2 * n → added_by code lost first e ≡ block_on code info refs e
    unfolding added_at block_on
    added_is e l =
        ap₂ (λ (x y : ℕ). destroy_block x y (target_of code e) (lost_at lost e)) (attr_is e (omega arith)) (label_is e (omega arith))
        ∙ ap (destroy_block (attr_for code info refs e) (label_for code info refs e) (target_of code e)) (sym (p.edge e l))

    all_added : joins (2 * n) (added_by code lost first) ≡ added_code code info refs
    unfolding added_code
    all_added = joins_agree (2 * n) (added_by code lost first) (block_on code info refs) added_is ∙ ap (λ (x : ℕ). joins (2 * x) (block_on code info refs)) (sym size)

    -- the code
    pub code_is : code_by code fates lost n first ≡ transform_code code info refs
    unfolding transform_code
    code_is = ap₂ ◌++◌ (joins_agree n (kept_by code fates lost first) (kept_code code info refs) kept_is ∙ ap (λ (x : ℕ). joins x (kept_code code info refs)) (sym size)) all_added

    -- 10
    none_added : (last : Next) → last ≡ numbers_at first lost (2 * n) → eqb first.attr last.attr ≡ eqb (length (added_code code info refs)) 0
    none_added last q =
        let w = written_is code first lost (2 * n) last q in
        let long = w.1 ∙ ap length all_added in
        by_eq first.attr last.attr (λ e. eq-eqb _ _ e ∙ sym (eq-eqb (length (added_code code info refs)) 0 (omega (arith, long))))
        (λ e. ne_eqb _ _ e ∙ sym (ne_eqb (length (added_code code info refs)) 0 (λ z. e (omega (arith, w.0, long)))))

    pub fit_is : (last : Next) → last ≡ numbers_at first lost (2 * n) → fit_between first last ≡ numbers_fit code info refs
    unfolding numbers_fit
    fit_is last q =
        let edges : 2 * n ≡ 2 * length code = ap (λ (x : ℕ). 2 * x) (sym size) in
        ap₂ (λ (x : Bool) (y : ℕ). x || (leb y (suc max_number) && leb last.attr (suc max_number))) (none_added last q) (ap (λ (x : Next). x.label) q ∙ label_is (2 * n) (omega arith) ∙ ap (label_for code info refs) edges)
        ∙ ap (λ (y : ℕ). eqb (length (added_code code info refs)) 0 || (leb (label_for code info refs (2 * length code)) (suc max_number) && leb y (suc max_number))) (ap (λ (x : Next). x.attr) q ∙ attr_is (2 * n) (omega arith) ∙ ap (attr_for code info refs) edges)
