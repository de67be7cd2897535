-- What `above` means: a node is above a set where it is in it or has a descendant in it, on cycles too. Assumes nothing.
use Rattle.std.specs.Prelude.{◌≡◌, ◌⊎◌, Bool, true, false, refl, cond, List, [], ◌∷◌, ℕ, zero, suc, ◌-◌, ◌^◌, ◌≤◌, ◌<◌}
use Rattle.std.proofs.Common.{sym, ap, ◌∙◌, subst, inl, inr, ⊎_elim, arith, zero-le, pow_pos}
use mathlib.Core.List.Memᴰ
use mathlib.Core.List.{Memᴰ}
use Rattle.std.proofs.Math.Decide.{ℕ_discrete}
use Rattle.std.specs.Int.Count.{ones, ones-ones}
use Rattle.std.proofs.Math.Pow.{pow-lt}
use Rattle.dataflow_domains.specs.Mask.{bit, holds, Sub}
use Rattle.dataflow_domains.specs.MaskLaws.{bit_lt, bit_union, bit_empty, bit_self, bit_other, sub_refl, sub_trans, sub_antisymm, sub_union_l, sub_union_r, sub_full, sub_at, union_lt, ones_mono, ones_same}
use Rattle.dataflow_domains.specs.HoldsLaws.{holds_true, true_holds}
use Rattle.borrow_analysis.specs.declared.triples.Triple.{Triple}
use Rattle.borrow_analysis.specs.Graph.{Graph}
use Rattle.borrow_analysis.specs.Borrows.{parents_in, upward, above, is_in_use}
use Rattle.borrow_analysis.specs.Meaning.{Descends, same, down, Reaches}
use Rattle.base.specs.ListLaws.{by_test, by_eq}

-- ---- one edge

pub parents_has : (ts : List Triple) (m : ℕ) → Sub m (parents_in ts m)
unfolding parents_in
parents_has [] m = sub_refl m
parents_has (t ∷ ts) m = sub_trans (parents_has ts m) (sub_union_r _ (parents_in ts m))

parents_in_lem : (ts : List Triple) (m : ℕ) (t : Triple) → Memᴰ t ts → bit m t.child ≡ 1 → bit (parents_in ts m) t.parent ≡ 1
unfolding parents_in
parents_in_lem [] m t i b = absurd (Memᴰ.not-nil i)
parents_in_lem (u ∷ us) m t i b =
    ⊎_elim (λ e. sub_at (sub_union_l (cond (holds m u.child) (2 ^ u.parent) 0) (parents_in us m)) t.parent (first e))
    (λ j. sub_at (sub_union_r (cond (holds m u.child) (2 ^ u.parent) 0) (parents_in us m)) t.parent (parents_in_lem us m t j b)) (Memᴰ.cases_cons i)
  where
    first : t ≡ u → bit (cond (holds m u.child) (2 ^ u.parent) 0) t.parent ≡ 1
    first e =
        subst (λ (x : Triple). bit (cond (holds m x.child) (2 ^ x.parent) 0) t.parent ≡ 1) e
        (ap (λ (q : Bool). bit (cond q (2 ^ t.parent) 0) t.parent) (true_holds m t.child b) ∙ bit_self t.parent)

parents_from : (ts : List Triple) (m n : ℕ) → bit (parents_in ts m) n ≡ 1 → (bit m n ≡ 1) ⊎ ((t : Triple) × Memᴰ t ts × (n ≡ t.parent) × (bit m t.child ≡ 1))
unfolding parents_in
parents_from [] m n b = inl b
parents_from (u ∷ us) m n b = go (λ r. parents_from us m n r) (ℕ_discrete (bit (parents_in us m) n) 1)
  where
    later : (bit m n ≡ 1) ⊎ ((t : Triple) × Memᴰ t us × (n ≡ t.parent) × (bit m t.child ≡ 1))
        → (bit m n ≡ 1) ⊎ ((t : Triple) × Memᴰ t (u ∷ us) × (n ≡ t.parent) × (bit m t.child ≡ 1))
    later (inl h) = inl h
    later (inr r) = inr (r.0, Memᴰ.tail r.1, r.2, r.3)

    one : (q : Bool) → holds m u.child ≡ q → bit (cond q (2 ^ u.parent) 0) n ≡ 1
        → (bit m n ≡ 1) ⊎ ((t : Triple) × Memᴰ t (u ∷ us) × (n ≡ t.parent) × (bit m t.child ≡ 1))
    one true e h =
        by_eq u.parent n (λ s. inr (u, Memᴰ.head refl, sym s, holds_true m u.child e)) (λ g. absurd (omega (arith, h, bit_other u.parent n g)))
    one false e h = absurd (omega (arith, h, bit_empty n))

    go : (bit (parents_in us m) n ≡ 1 → (bit m n ≡ 1) ⊎ ((t : Triple) × Memᴰ t us × (n ≡ t.parent) × (bit m t.child ≡ 1)))
        → Dec (bit (parents_in us m) n ≡ 1)
        → (bit m n ≡ 1) ⊎ ((t : Triple) × Memᴰ t (u ∷ us) × (n ≡ t.parent) × (bit m t.child ≡ 1))
    go rest (yes r) = later (rest r)
    go rest (no g) =
        one (holds m u.child) refl
        (omega (arith, b, g, bit_union (cond (holds m u.child) (2 ^ u.parent) 0) (parents_in us m) n, bit_lt (parents_in us m) n, bit_lt (cond (holds m u.child) (2 ^ u.parent) 0) n))

-- ---- what is above reaches

-- one triple further down
further : {ts : List Triple} {n : ℕ} (t : Triple) → Memᴰ t ts → {m : ℕ} → Descends ts n m → m ≡ t.parent → Descends ts n t.child
further {ts} t i (same {n = n}) e = subst (λ (x : ℕ). Descends ts x t.child) (sym e) (down t i same)
further t i (down u j p) e = down u j (further t i p e)

pub above_reaches : (k : ℕ) (ts : List Triple) (m n : ℕ) → bit (upward k ts m) n ≡ 1 → Reaches ts m n
unfolding upward
above_reaches zero ts m n b = record { node = n; path = same; has = b }
above_reaches (suc k) ts m n b = back (above_reaches k ts (parents_in ts m) n b)
  where
    back : Reaches ts (parents_in ts m) n → Reaches ts m n
    back r =
        ⊎_elim (λ h. record { node = r.node; path = r.path; has = h })
        (λ q. record { node = q.0.child; path = further q.0 q.1 r.path q.2; has = q.3 }) (parents_from ts m r.node r.has)

-- ---- what reaches is above, once nothing is added any more

module _ (ts : List Triple) (c : ℕ) (inside : (t : Triple) → Memᴰ t ts → t.parent < c) where
  parents_lt : (us : List Triple) (m : ℕ) → ((t : Triple) → Memᴰ t us → t.parent < c) → m < 2 ^ c → parents_in us m < 2 ^ c
  unfolding parents_in
  parents_lt [] m h b = b
  parents_lt (u ∷ us) m h b =
      union_lt c _ _ (by_test (λ q. cond q (2 ^ u.parent) 0 < 2 ^ c) (holds m u.child) (λ e. pow-lt (h u (Memᴰ.head refl))) (λ e. pow_pos c))
      (parents_lt us m (λ t i. h t (Memᴰ.tail i)) b)

  upward_suc : (k m : ℕ) → upward (suc k) ts m ≡ parents_in ts (upward k ts m)
  unfolding upward
  upward_suc zero m = refl
  upward_suc (suc k) m = upward_suc k (parents_in ts m)

  upward_lt : (k m : ℕ) → m < 2 ^ c → upward k ts m < 2 ^ c
  unfolding upward
  upward_lt zero m b = b
  upward_lt (suc k) m b = upward_lt k (parents_in ts m) (parents_lt ts m inside b)

  -- after k rounds nothing is added any more, or there are k nodes
  full_or_fixed : (k m : ℕ) → (parents_in ts (upward k ts m) ≡ upward k ts m) ⊎ (k ≤ ones (upward k ts m))
  full_or_fixed zero m = inr zero-le
  full_or_fixed (suc k) m =
      ⊎_elim (λ e. inl (ap (parents_in ts) (upward_suc k m ∙ e) ∙ sym (upward_suc k m)))
      (λ h. by_eq (parents_in ts (upward k ts m)) (upward k ts m)
      (λ e. inl (ap (parents_in ts) (upward_suc k m ∙ e) ∙ sym (upward_suc k m)))
      (λ g. inr (by_eq (ones (upward k ts m)) (ones (parents_in ts (upward k ts m)))
      (λ s. absurd (g (sym (ones_same (parents_in ts (upward k ts m)) (upward k ts m) (parents_has ts (upward k ts m)) (omega (arith, s))))))
      (λ d. omega (arith, h, d, ap ones (upward_suc k m), ones_mono (upward k ts m) (parents_in ts (upward k ts m)) (parents_has ts (upward k ts m))))))) (full_or_fixed k m)

  fixed : (m : ℕ) → m < 2 ^ c → parents_in ts (upward c ts m) ≡ upward c ts m
  fixed m b =
      ⊎_elim (λ e. e)
      (λ h. let x = upward c ts m in
      let full : x ≡ 2 ^ c - 1 = ones_same (2 ^ c - 1) x (sub_full c x (upward_lt c m b)) (omega (arith, h, ones-ones c)) in
      sub_antisymm (subst (λ (y : ℕ). Sub (parents_in ts x) y) (sym full) (sub_full c (parents_in ts x) (parents_lt ts x inside (upward_lt c m b)))) (parents_has ts x)) (full_or_fixed c m)

  upward_has : (k m : ℕ) → Sub m (upward k ts m)
  unfolding upward
  upward_has zero m = sub_refl m
  upward_has (suc k) m = sub_trans (parents_has ts m) (upward_has k (parents_in ts m))

  pub reaches_above : (m : ℕ) → m < 2 ^ c → {n : ℕ} → Reaches ts m n → bit (upward c ts m) n ≡ 1
  reaches_above m b r = climb r.path r.has
    where
      climb : {n x : ℕ} → Descends ts n x → bit m x ≡ 1 → bit (upward c ts m) n ≡ 1
      climb (same {n = n}) h = sub_at (upward_has c m) n h
      climb (down t i p) h = ap (λ (x : ℕ). bit x t.parent) (sym (fixed m b)) ∙ parents_in_lem ts (upward c ts m) t i (climb p h)

-- ---- in use: the node or a descendant of it is live

pub in_use_reaches : (g : Graph) (n : ℕ) → is_in_use g n ≡ true → Reaches g.triples g.live n
unfolding is_in_use above
in_use_reaches g n e = above_reaches g.count g.triples g.live n (holds_true _ n e)

pub reaches_in_use : (g : Graph) (n : ℕ) → ((t : Triple) → Memᴰ t g.triples → t.parent < g.count) → g.live < 2 ^ g.count
    → Reaches g.triples g.live n → is_in_use g n ≡ true
unfolding is_in_use above
reaches_in_use g n inside small r = true_holds _ n (reaches_above g.triples g.count inside g.live small r)
