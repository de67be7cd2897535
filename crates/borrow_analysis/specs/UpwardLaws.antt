-- Turns up from a set of nodes, as the loops make them: one triple after the other, and turn after turn until none adds a node. Assumes nothing.
use Rattle.std.specs.Prelude.{◌≡◌, refl, Bool, true, false, cond, ℕ, zero, suc, ◌+◌, ◌-◌, ◌^◌, ◌≤◌, ◌<◌, List}
use Rattle.std.proofs.Common.{sym, ap, ◌∙◌, subst, arith}
use Rattle.std.proofs.Math.Nat.{sub-zero}
use Rattle.base.specs.Lists.{tab}
use Rattle.base.specs.TabLaws.{tab_more, tab_end}
use Rattle.dataflow_domains.specs.Mask.{holds, union, Sub}
use Rattle.dataflow_domains.specs.MaskLaws.{union_comm, union_assoc, none_union, sub_refl, sub_trans, sub_union_l, union_of_sub}
use Rattle.borrow_analysis.specs.declared.triples.Triple.{Triple}
use Rattle.borrow_analysis.specs.Borrows.{parents_in, upward}
use Rattle.borrow_analysis.specs.GraphParts.{ParentsAdded}
use Rattle.borrow_analysis.specs.BorrowLaws.{parents_has}

-- ---- one turn up

module _ (f : ℕ → Triple) (n m : ℕ) where
  pub added_none : ParentsAdded f n m 0 m
  added_none = record {
    has = sub_refl m;
    rest = ap (λ (j : ℕ). parents_in (tab j 0 f) m) (sym (sub-zero n))
        ∙ sym (union_comm m (parents_in (tab (n - 0) 0 f) m) ∙ union_of_sub (parents_has (tab (n - 0) 0 f) m));
  }

  turn_more : (i : ℕ) → i < n → parents_in (tab (n - i) i f) m ≡ union (cond (holds m (f i).child) (2 ^ (f i).parent) 0) (parents_in (tab (n - (i + 1)) (i + 1) f) m)
  unfolding parents_in
  turn_more i h = ap (λ (ts : List Triple). parents_in ts m) (tab_more n i f h)

  -- triple i has child k and parent p, and b says whether m has k
  pub added_more : {i g h k p : ℕ} {b : Bool} → i < n → ParentsAdded f n m i g → k ≡ (f i).child → b ≡ holds m k → b ≡ true → p ≡ (f i).parent → h ≡ union g (2 ^ p) → ParentsAdded f n m (i + 1) h
  added_more {i} {g} {h} {k} {p} {b} l w child test t parent e =
      let rest = parents_in (tab (n - (i + 1)) (i + 1) f) m in
      let grown : h ≡ union g (2 ^ (f i).parent) = e ∙ ap (λ (x : ℕ). union g (2 ^ x)) parent in
      let here : holds m (f i).child ≡ true = ap (holds m) (sym child) ∙ sym test ∙ t in
      record {
        has = subst (λ (x : ℕ). Sub m x) (sym grown) (sub_trans w.has (sub_union_l g (2 ^ (f i).parent)));
        rest = w.rest ∙ ap (union g) (turn_more i l ∙ ap (λ (q : Bool). union (cond q (2 ^ (f i).parent) 0) rest) here)
            ∙ sym (union_assoc g (2 ^ (f i).parent) rest) ∙ ap (λ (x : ℕ). union x rest) (sym grown);
      }

  pub added_same : {i g h k : ℕ} {b : Bool} → i < n → ParentsAdded f n m i g → k ≡ (f i).child → b ≡ holds m k → b ≡ false → h ≡ g → ParentsAdded f n m (i + 1) h
  added_same {i} {g} {h} {k} {b} l w child test t e =
      let rest = parents_in (tab (n - (i + 1)) (i + 1) f) m in
      let here : holds m (f i).child ≡ false = ap (holds m) (sym child) ∙ sym test ∙ t in
      record {
        has = subst (λ (x : ℕ). Sub m x) (sym e) w.has;
        rest = w.rest ∙ ap (union g) (turn_more i l ∙ ap (λ (q : Bool). union (cond q (2 ^ (f i).parent) 0) rest) here ∙ none_union rest)
            ∙ ap (λ (x : ℕ). union x rest) (sym e);
      }

  pub added_all : (i g : ℕ) → n ≤ i → ParentsAdded f n m i g → g ≡ parents_in (tab n 0 f) m
  unfolding parents_in
  added_all i g h w = sym (w.rest ∙ ap (λ (ts : List Triple). union g (parents_in ts m)) (tab_end n i f h) ∙ union_of_sub w.has)

-- ---- turn after turn

-- where a turn adds none, no other does
pub upward_fixed : (k : ℕ) (ts : List Triple) (m : ℕ) → parents_in ts m ≡ m → upward k ts m ≡ m
unfolding upward
upward_fixed zero ts m e = refl
upward_fixed (suc k) ts m e = ap (upward k ts) e ∙ upward_fixed k ts m e

pub upward_more : (n k : ℕ) (ts : List Triple) (m : ℕ) → k < n → upward (n - k) ts m ≡ upward (n - (k + 1)) ts (parents_in ts m)
unfolding upward
upward_more n k ts m h = let size : n - k ≡ suc (n - (k + 1)) = omega arith in ap (λ (j : ℕ). upward j ts m) size

pub upward_end : (n k : ℕ) (ts : List Triple) (m : ℕ) → n ≤ k → upward (n - k) ts m ≡ m
unfolding upward
upward_end n k ts m h = let size : n - k ≡ 0 = omega arith in ap (λ (j : ℕ). upward j ts m) size
