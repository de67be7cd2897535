-- How many triples lead to a node, as one loop over the triples finds out: those to which one leads, and those to which more do. Assumes nothing.
use Rattle.std.specs.Prelude.{◌≡◌, refl, Bool, true, false, cond, ◌||◌, List, [], ◌∷◌, ◌++◌, ℕ, zero, suc, ◌+◌, ◌^◌, ◌≤◌, ◌<◌, eqb, ltb}
use Rattle.std.proofs.Common.{sym, ap, ap₂, ◌∙◌, subst, zero-add, add-one, arith, lt-ltb, le-ltb, eq-eqb, ne_eqb, ltb-true, ltb-false, pow_pos}
use Rattle.std.proofs.Math.Pow.{pow-lt}
use Rattle.base.specs.Lists.{tab}
use Rattle.base.specs.ListLaws.{by_test, by_eq}
use Rattle.base.specs.JoinLaws.{by_lt}
use Rattle.base.specs.TabLaws.{tab_last}
use Rattle.dataflow_domains.specs.Mask.{holds, union}
use Rattle.dataflow_domains.specs.MaskLaws.{bit_empty, bit_self, union_lt, bit_other}
use Rattle.dataflow_domains.specs.HoldsLaws.{same_holds, holds_insert, holds_insert_other, holds_union, true_holds, false_holds}
use Rattle.borrow_analysis.specs.declared.triples.Triple.{Triple}
use Rattle.borrow_analysis.specs.Borrows.{incoming, many_in}
use Rattle.borrow_analysis.specs.GraphParts.{ManyIncoming, IncomingCounted}

-- ---- how many lead to a node

incoming_append : (xs ys : List Triple) (k : ℕ) → incoming (xs ++ ys) k ≡ incoming xs k + incoming ys k
unfolding incoming
incoming_append [] ys k = sym (zero-add (incoming ys k))
incoming_append (t ∷ xs) ys k =
    by_test (λ b. cond b (suc (incoming (xs ++ ys) k)) (incoming (xs ++ ys) k) ≡ cond b (suc (incoming xs k)) (incoming xs k) + incoming ys k) (eqb t.child k)
    (λ e. omega (arith, incoming_append xs ys k)) (λ e. incoming_append xs ys k)

incoming_here : (xs : List Triple) (t : Triple) → incoming (xs ++ (t ∷ [])) t.child ≡ suc (incoming xs t.child)
unfolding incoming
incoming_here xs t =
    incoming_append xs (t ∷ []) t.child ∙ ap (λ (b : Bool). incoming xs t.child + cond b 1 0) (eq-eqb t.child t.child refl) ∙ add-one (incoming xs t.child)

incoming_other : (xs : List Triple) (t : Triple) (k : ℕ) → (k ≡ t.child → ⊥) → incoming (xs ++ (t ∷ [])) k ≡ incoming xs k
unfolding incoming
incoming_other xs t k g =
    incoming_append xs (t ∷ []) k ∙ ap (λ (b : Bool). incoming xs k + cond b 1 0) (ne_eqb t.child k (λ e. g (sym e))) ∙ omega arith

pub counted_none : (f : ℕ → Triple) → IncomingCounted (tab 0 0 f) 0 0
unfolding incoming tab
counted_none f = record { one = λ k. false_holds 0 k (bit_empty k); two = λ k. false_holds 0 k (bit_empty k) }

module _ (ts : List Triple) (t : Triple) {once many : ℕ} (w : IncomingCounted ts once many) where
  counted_one : (k : ℕ) → holds (union once (2 ^ t.child)) k ≡ ltb 0 (incoming (ts ++ (t ∷ [])) k)
  counted_one k =
      by_eq k t.child
      (λ s. subst (λ (j : ℕ). holds (union once (2 ^ t.child)) j ≡ ltb 0 (incoming (ts ++ (t ∷ [])) j)) (sym s)
      (holds_insert once t.child ∙ sym (lt-ltb 0 (incoming (ts ++ (t ∷ [])) t.child) (omega (arith, incoming_here ts t)))))
      (λ g. holds_insert_other once t.child k g ∙ w.one k ∙ ap (ltb 0) (sym (incoming_other ts t k g)))

  -- one before it leads to its child; none does
  counted_again : holds once t.child ≡ true → IncomingCounted (ts ++ (t ∷ [])) (union once (2 ^ t.child)) (union many (2 ^ t.child))
  counted_again e = record {
    one = counted_one;
    two = λ k. by_eq k t.child
        (λ s. subst (λ (j : ℕ). holds (union many (2 ^ t.child)) j ≡ ltb 1 (incoming (ts ++ (t ∷ [])) j)) (sym s)
        (holds_insert many t.child ∙ sym (lt-ltb 1 (incoming (ts ++ (t ∷ [])) t.child) (omega (arith, incoming_here ts t, ltb-true 0 (incoming ts t.child) (sym (w.one t.child) ∙ e))))))
        (λ g. holds_insert_other many t.child k g ∙ w.two k ∙ ap (ltb 1) (sym (incoming_other ts t k g)));
  }

  counted_first : holds once t.child ≡ false → IncomingCounted (ts ++ (t ∷ [])) (union once (2 ^ t.child)) many
  counted_first e =
      let none : incoming ts t.child ≤ 0 = ltb-false 0 (incoming ts t.child) (sym (w.one t.child) ∙ e) in
      record {
        one = counted_one;
        two = λ k. by_eq k t.child
            (λ s. subst (λ (j : ℕ). holds many j ≡ ltb 1 (incoming (ts ++ (t ∷ [])) j)) (sym s)
            (w.two t.child ∙ le-ltb 1 (incoming ts t.child) (omega arith) ∙ sym (le-ltb 1 (incoming (ts ++ (t ∷ [])) t.child) (omega (arith, incoming_here ts t)))))
            (λ g. w.two k ∙ ap (ltb 1) (sym (incoming_other ts t k g)));
      }

-- triple i leads to k; b says whether one before it does
module _ (f : ℕ → Triple) {i k once many one two : ℕ} {b : Bool} (w : IncomingCounted (tab i 0 f) once many) (child : k ≡ (f i).child) (test : b ≡ holds once k) (e : one ≡ union once (2 ^ k)) where
  pub counted_more : b ≡ true → two ≡ union many (2 ^ k) → IncomingCounted (tab (i + 1) 0 f) one two
  counted_more t d = rw (tab_last i f, e, d, child) (counted_again (tab i 0 f) (f i) w (ap (holds once) (sym child) ∙ sym test ∙ t))

  pub counted_new : b ≡ false → two ≡ many → IncomingCounted (tab (i + 1) 0 f) one two
  counted_new t d = rw (tab_last i f, e, d, child) (counted_first (tab i 0 f) (f i) w (ap (holds once) (sym child) ∙ sym test ∙ t))

pub counted_all : (f : ℕ → Triple) {n i once many : ℕ} → i ≡ n → IncomingCounted (tab i 0 f) once many → ManyIncoming (tab n 0 f) many
counted_all f {n} {i} {once} {many} e w = record { each = λ k. w.two k ∙ ap (λ (j : ℕ). ltb 1 (incoming (tab j 0 f) k)) e }

-- ---- those of the nodes below c, as a mask: all of them, where the triples lead to no other

lone_here : (b : Bool) (k : ℕ) → holds (cond b (2 ^ k) 0) k ≡ b
lone_here true k = true_holds (2 ^ k) k (bit_self k)
lone_here false k = false_holds 0 k (bit_empty k)

lone_other : (b : Bool) (k j : ℕ) → (j ≡ k → ⊥) → holds (cond b (2 ^ k) 0) j ≡ false
lone_other true k j g = false_holds (2 ^ k) j (bit_other k j (λ e. g (sym e)))
lone_other false k j g = false_holds 0 j (bit_empty j)

-- none of the others
pub many_out : (n k j : ℕ) (ts : List Triple) → (k ≤ j → j < k + n → ⊥) → holds (many_in n k ts) j ≡ false
unfolding many_in
many_out zero k j ts h = false_holds 0 j (bit_empty j)
many_out (suc n) k j ts h =
    holds_union (cond (ltb 1 (incoming ts k)) (2 ^ k) 0) (many_in n (suc k) ts) j
    ∙ ap₂ ◌||◌ (lone_other (ltb 1 (incoming ts k)) k j (λ e. h (omega arith) (omega arith))) (many_out n (suc k) j ts (λ l g. h (omega arith) (omega arith)))

-- no wider than the nodes
pub many_lt : (n k c : ℕ) (ts : List Triple) → k + n ≤ c → many_in n k ts < 2 ^ c
unfolding many_in
many_lt zero k c ts h = pow_pos c
many_lt (suc n) k c ts h =
    union_lt c _ _ (by_test (λ b. cond b (2 ^ k) 0 < 2 ^ c) (ltb 1 (incoming ts k)) (λ e. pow-lt {i = k} {j = c} (omega arith)) (λ e. pow_pos c)) (many_lt n (suc k) c ts (omega arith))

-- and of the nodes exactly those
pub many_bits : (n k j : ℕ) (ts : List Triple) → k ≤ j → j < k + n → holds (many_in n k ts) j ≡ ltb 1 (incoming ts j)
unfolding many_in
many_bits zero k j ts l h = absurd (omega arith)
many_bits (suc n) k j ts l h =
    holds_union (cond (ltb 1 (incoming ts k)) (2 ^ k) 0) (many_in n (suc k) ts) j
    ∙ by_eq j k
    (λ s. subst (λ (i : ℕ). holds (cond (ltb 1 (incoming ts k)) (2 ^ k) 0) i || holds (many_in n (suc k) ts) i ≡ ltb 1 (incoming ts i)) (sym s)
    (ap₂ ◌||◌ (lone_here (ltb 1 (incoming ts k)) k) (many_out n (suc k) k ts (λ l g. omega arith)) ∙ or_none (ltb 1 (incoming ts k))))
    (λ g. ap₂ ◌||◌ (lone_other (ltb 1 (incoming ts k)) k j g) (many_bits n (suc k) j ts (omega arith) (omega arith)))
  where
    or_none : (b : Bool) → b || false ≡ b
    or_none true = refl
    or_none false = refl

-- the loop's set is the definition's
pub many_is : (c m : ℕ) (ts : List Triple) → ManyIncoming ts m → ((j : ℕ) → c ≤ j → incoming ts j ≡ 0) → m ≡ many_in c 0 ts
many_is c m ts w h =
    same_holds m (many_in c 0 ts)
    (λ j. w.each j ∙ by_lt j c (λ l. sym (many_bits c 0 j ts (omega arith) (omega arith)))
    (λ l. ap (ltb 1) (h j l) ∙ sym (many_out c 0 j ts (λ a b. omega arith))))

-- where a triple names nodes below c, none leads to a node from c on
pub incoming_out : (n i c : ℕ) (f : ℕ → Triple) (j : ℕ) → ((k : ℕ) → k < i + n → (f k).child < c) → c ≤ j → incoming (tab n i f) j ≡ 0
unfolding incoming tab
incoming_out zero i c f j h l = refl
incoming_out (suc n) i c f j h l =
    ap (λ (b : Bool). cond b (suc (incoming (tab n (suc i) f) j)) (incoming (tab n (suc i) f) j)) (ne_eqb (f i).child j (λ e. omega (arith, h i (omega arith))))
    ∙ incoming_out n (suc i) c f j (λ k q. h k (omega arith)) l
