-- What always holds of the nodes of a work list, at the beginning and after a receipt, and what a receipt does. Assumes nothing.
use Rattle.std.specs.Prelude.{◌≡◌, ◌⊎◌, ◌≢◌, true, false, cond, not, ℕ, suc, ◌+◌, ◌≤◌, ◌<◌, eqb, set, length, replicate, refl, List, [], ◌∷◌, map, get_or}
use Rattle.std.proofs.Common.{ap, subst, sym, ap₂, ◌∙◌, arith, inl, inr, ⊎_elim, eqb-true, length-set, length-append, get_or-set_same, get_or-set_other}
use mathlib.Core.List.Memᴰ
use mathlib.Core.List.{Memᴰ}
use Rattle.std.proofs.Math.Decide.{ℕ_discrete}
use Rattle.std.proofs.lemmas.Bool.{eqb-false, not-true, not-false}
use Rattle.std.proofs.lemmas.List.{length-replicate, length-map}
use Rattle.std.proofs.Math.ListN.{get_or-map}
use Rattle.base.specs.Lists.{over, sum}
use Rattle.base.specs.ListLaws.{or-false, or-true, by_test, copies_at, map_set, sum_set}
use Rattle.dataflow_analysis.specs.Lattice.{Lattice, Laws, Bounded}
use Rattle.dataflow_analysis.specs.Worklist.{State, set_at, Met, news, joined, receive, begin}

-- all the nodes of a list are below n
pub record AllBelow (n : ℕ) (ps : List ℕ) : Type 0 where
  pub each : (p : ℕ) → Memᴰ p ps → p < n

inside_head : {n p : ℕ} {ps : List ℕ} → AllBelow n (p ∷ ps) → p < n
inside_head h = h.each _ (Memᴰ.head refl)

inside_tail : {n p : ℕ} {ps : List ℕ} → AllBelow n (p ∷ ps) → AllBelow n ps
inside_tail h = record { each = λ q m. h.each q (Memᴰ.tail m) }

module _ {L : Lattice} (W : Laws L) where
  abbrev A : Type 0
  A = L.Value

  -- ---- one node receives a value

  -- what holds of a state that is as it was, and of one that has the node joined, holds of the state after
  pub by_news : (P : State L → Type 0) (m : A) (st : State L) (p : ℕ) → (news m st p ≡ true → P (joined m st p)) → (news m st p ≡ false → P st) → P (receive m st p)
  unfolding receive
  by_news P m st p yes' no' = by_test (λ b. P (cond b (joined m st p) st)) (news m st p) yes' no'

  -- no news: it was met, and its value has m
  old_met : (m : A) (st : State L) (p : ℕ) → news m st p ≡ false → get_or st.met p 0 ≢ 0
  unfolding news
  old_met m st p e = eqb-false (get_or st.met p 0) 0 (or-false (eqb (get_or st.met p 0) 0) _ e).0

  old_has : (m : A) (st : State L) (p : ℕ) → news m st p ≡ false → W.Le m (set_at st p)
  unfolding news
  old_has m st p e = W.same_le _ _ (not-false _ (or-false (eqb (get_or st.met p 0) 0) _ e).1)

  -- news: it was not met, or its value grows
  new_either : (m : A) (st : State L) (p : ℕ) → news m st p ≡ true → (get_or st.met p 0 ≡ 0) ⊎ (L.same (L.join (set_at st p) m) (set_at st p) ≡ false)
  unfolding news
  new_either m st p e =
      ⊎_elim (λ a. inl (eqb-true _ _ a)) (λ b. inr (not-true _ b))
      (or-true (eqb (get_or st.met p 0) 0) (not (L.same (L.join (set_at st p) m) (set_at st p))) e)

  -- ---- what always holds of n nodes: the lists have a place for each, a flag is 0 or 1, and what is on the list was met

  pub record Ok (n : ℕ) (st : State L) : Type 0 where
    pub sets_length : length st.sets ≡ n
    pub met_length : length st.met ≡ n
    pub flags : (j : ℕ) → get_or st.met j 0 ≤ 1
    pub waiting : (j : ℕ) → Memᴰ j st.list → Met st j

  -- no set has less, and nothing met is forgotten
  pub record Grows (st new : State L) : Type 0 where
    pub sets : (j : ℕ) → W.Le (set_at st j) (set_at new j)
    pub met : (j : ℕ) → Met st j → Met new j

  grows_refl : (st : State L) → Grows st st
  grows_refl st = record { sets = λ j. W.le_refl (set_at st j); met = λ j h. h }

  pub grows_trans : {a b c : State L} → Grows a b → Grows b c → Grows a c
  grows_trans p q = record { sets = λ j. W.le_trans (p.sets j) (q.sets j); met = λ j h. q.met j (p.met j h) }

  module _ (n : ℕ) (m : A) (st : State L) (p : ℕ) (ok : Ok n st) (inside : p < n) where
    -- the node itself, and every other
    pub joined_set : set_at (joined m st p) p ≡ L.join (set_at st p) m
    unfolding joined
    joined_set = get_or-set_same st.sets p (L.join (set_at st p) m) L.none (omega (arith, ok.sets_length))

    pub joined_set_other : (j : ℕ) → j ≢ p → set_at (joined m st p) j ≡ set_at st j
    unfolding joined
    joined_set_other j h = get_or-set_other st.sets p j (L.join (set_at st p) m) L.none h

    joined_met : Met (joined m st p) p
    unfolding joined
    joined_met = get_or-set_same st.met p 1 0 (omega (arith, ok.met_length))

    pub joined_met_other : (j : ℕ) → j ≢ p → get_or (joined m st p).met j 0 ≡ get_or st.met j 0
    unfolding joined
    joined_met_other j h = get_or-set_other st.met p j 1 0 h

    pub joined_grows : Grows st (joined m st p)
    joined_grows = record { sets = λ j. more j (ℕ_discrete j p); met = λ j h. kept j h (ℕ_discrete j p) }
      where
        more : (j : ℕ) → Dec (j ≡ p) → W.Le (set_at st j) (set_at (joined m st p) j)
        more j (yes e) =
            subst (λ (k : ℕ). W.Le (set_at st k) (set_at (joined m st p) k)) (sym e)
            (subst (λ (x : A). W.Le (set_at st p) x) (sym joined_set) (W.le_left (set_at st p) m))
        more j (no h) = subst (λ (x : A). W.Le (set_at st j) x) (sym (joined_set_other j h)) (W.le_refl (set_at st j))

        kept : (j : ℕ) → Met st j → Dec (j ≡ p) → Met (joined m st p) j
        kept j h (yes e) = subst (λ (k : ℕ). Met (joined m st p) k) (sym e) joined_met
        kept j h (no g) = joined_met_other j g ∙ h

    pub joined_ok : Ok n (joined m st p)
    unfolding joined
    joined_ok = record {
      sets_length = length-set st.sets p (L.join (set_at st p) m) ∙ ok.sets_length;
      met_length = length-set st.met p 1 ∙ ok.met_length;
      flags = λ j. flag j (ℕ_discrete j p);
      waiting = λ j h. ⊎_elim (λ a. joined_grows.met j (ok.waiting j a)) (λ b. subst (λ (k : ℕ). Met (joined m st p) k) (sym (Memᴰ.eq_of_singleton b)) joined_met) (Memᴰ.append_cases st.list h);
    }
      where
        flag : (j : ℕ) → Dec (j ≡ p) → get_or (joined m st p).met j 0 ≤ 1
        flag j (yes e) = omega (arith, ap (λ (k : ℕ). get_or (joined m st p).met k 0) e, joined_met)
        flag j (no g) = omega (arith, joined_met_other j g, ok.flags j)

    pub receive_ok : Ok n (receive m st p)
    receive_ok = by_news (Ok n) m st p (λ e. joined_ok) (λ e. ok)

    pub receive_grows : Grows st (receive m st p)
    receive_grows = by_news (Grows st) m st p (λ e. joined_grows) (λ e. grows_refl st)

    -- the node is met, and its set has m
    pub receive_met : Met (receive m st p) p
    receive_met =
        by_news (λ (s : State L). Met s p) m st p (λ e. joined_met) (λ e. omega (arith, old_met m st p e, ok.flags p))

    pub receive_has : W.Le m (set_at (receive m st p) p)
    receive_has =
        by_news (λ (s : State L). W.Le m (set_at s p)) m st p
        (λ e. subst (λ (x : A). W.Le m x) (sym joined_set) (W.le_right (set_at st p) m)) (λ e. old_has m st p e)

  -- ---- many nodes receive a set

  -- what one receipt keeps, many keep
  pub over_keeps : (P : State L → Type 0) (n : ℕ) (m : A) (ps : List ℕ) → AllBelow n ps
      → ((st : State L) (p : ℕ) → Memᴰ p ps → p < n → Ok n st → P st → P (receive m st p))
      → (st : State L) → Ok n st → P st → P (over (receive m) st ps)
  over_keeps P n m [] inside keep st ok h = h
  over_keeps P n m (p ∷ ps) inside keep st ok h =
      over_keeps P n m ps (inside_tail inside) (λ s q i. keep s q (Memᴰ.tail i)) (receive m st p)
      (receive_ok n m st p ok (inside_head inside)) (keep st p (Memᴰ.head refl) (inside_head inside) ok h)

  pub over_ok : (n : ℕ) (m : A) (ps : List ℕ) → AllBelow n ps → (st : State L) → Ok n st → Ok n (over (receive m) st ps)
  over_ok n m ps inside st ok = over_keeps (Ok n) n m ps inside (λ s p i h o g. receive_ok n m s p o h) st ok ok

  pub over_grows : (n : ℕ) (m : A) (ps : List ℕ) → AllBelow n ps → (st : State L) → Ok n st → Grows st (over (receive m) st ps)
  over_grows n m ps inside st ok =
      over_keeps (Grows st) n m ps inside (λ s p i h o g. grows_trans g (receive_grows n m s p o h)) st ok (grows_refl st)

  -- each of them is met, and has m
  pub record Has (m : A) (st : State L) (p : ℕ) : Type 0 where
    pub met : Met st p
    pub has : W.Le m (set_at st p)

  pub over_has : (n : ℕ) (m : A) (ps : List ℕ) → AllBelow n ps → (st : State L) → Ok n st → (p : ℕ) → Memᴰ p ps → Has m (over (receive m) st ps) p
  over_has n m [] inside st ok p i = absurd (Memᴰ.not-nil i)
  over_has n m (q ∷ qs) inside st ok p i =
      ⊎_elim (λ e. here e) (λ t. over_has n m qs (inside_tail inside) (receive m st q) next p t) (Memᴰ.cases_cons i)
    where
      next : Ok n (receive m st q)
      next = receive_ok n m st q ok (inside_head inside)

      after : Grows (receive m st q) (over (receive m) (receive m st q) qs)
      after = over_grows n m qs (inside_tail inside) (receive m st q) next

      here : p ≡ q → Has m (over (receive m) (receive m st q) qs) p
      here e =
          subst (λ (k : ℕ). Has m (over (receive m) (receive m st q) qs) k) (sym e) (record {
            met = after.met q (receive_met n m st q ok (inside_head inside));
            has = W.le_trans (receive_has n m st q ok (inside_head inside)) (after.sets q);
          })

  -- ---- how often a node can join

  module _ {top : A} (S : Bounded W top) where
    -- one for each node that was met, and the size of each value
    unfoldable pub room : State L → ℕ
    room st = sum st.met + sum (map S.size st.sets)

    -- each removal, and each node that waits, has its own place in that room
    pub record CountedState (st : State L) : Type 0 where
      pub fits : st.taken + length st.list ≤ room st

    pub size_at : (l : List A) (i : ℕ) → get_or (map S.size l) i 0 ≡ S.size (get_or l i L.none)
    size_at l i = ap (get_or (map S.size l) i) (sym S.size_none) ∙ get_or-map S.size l i L.none

    pub sizes_set : (l : List A) (i : ℕ) (v : A) → i < length l → sum (map S.size (set l i v)) + S.size (get_or l i L.none) ≡ sum (map S.size l) + S.size v
    sizes_set l i v h =
        ap₂ ◌+◌ (ap sum (map_set S.size l i v)) (sym (size_at l i))
        ∙ sum_set (map S.size l) i (S.size v) (omega (arith, length-map l S.size))

    module _ (n : ℕ) (m : A) (st : State L) (p : ℕ) (ok : Ok n st) (inside : p < n) (below : W.Le (set_at st p) top) (small : W.Le m top) where
      pub joined_room : news m st p ≡ true → suc (room st) ≤ room (joined m st p)
      unfolding room joined
      joined_room e =
          let values = sizes_set st.sets p (L.join (set_at st p) m) (omega (arith, ok.sets_length)) in
          let flags = sum_set st.met p 1 (omega (arith, ok.met_length)) in
          ⊎_elim (λ a. omega (arith, values, flags, S.size_mono _ _ (W.le_left (set_at st p) m)))
          (λ b. omega (arith, values, flags, ok.flags p, S.size_grows (set_at st p) m below small b)) (new_either m st p e)

      joined_length : length (joined m st p).list ≡ suc (length st.list)
      unfolding joined
      joined_length = omega (arith, length-append st.list (p ∷ []))

      joined_taken : (joined m st p).taken ≡ st.taken
      unfolding joined
      joined_taken = refl

      pub receive_counted : CountedState st → CountedState (receive m st p)
      receive_counted c =
          by_news CountedState m st p (λ e. record { fits = omega (arith, joined_room e, joined_length, joined_taken, c.fits) }) (λ e. c)

  -- ---- the beginning

  module _ (n start : ℕ) (inside : start < n) where
    begin_flag : (j : ℕ) → j ≢ start → get_or (begin {L = L} n start).met j 0 ≡ 0
    unfolding begin
    begin_flag j h = get_or-set_other (replicate n 0) start j 1 0 h ∙ copies_at n j 0

    pub begin_start : Met (begin {L = L} n start) start
    unfolding begin
    begin_start = get_or-set_same (replicate n 0) start 1 0 (omega (arith, length-replicate {A = ℕ} n 0))

    pub begin_set : (j : ℕ) → set_at (begin {L = L} n start) j ≡ L.none
    unfolding begin
    begin_set j = copies_at n j L.none

    pub begin_met : (j : ℕ) → Met (begin {L = L} n start) j → j ≡ start
    begin_met j h = go (ℕ_discrete j start)
      where
        go : Dec (j ≡ start) → j ≡ start
        go (yes e) = e
        go (no g) = absurd (omega (arith, h, begin_flag j g))

    pub begin_ok : Ok n (begin n start)
    unfolding begin
    begin_ok = record {
      sets_length = length-replicate n L.none;
      met_length = length-set (replicate n 0) start 1 ∙ length-replicate {A = ℕ} n 0;
      flags = λ j. flag j (ℕ_discrete j start);
      waiting = λ j i. subst (λ (k : ℕ). Met (begin {L = L} n start) k) (sym (Memᴰ.eq_of_singleton i)) begin_start;
    }
      where
        flag : (j : ℕ) → Dec (j ≡ start) → get_or (begin {L = L} n start).met j 0 ≤ 1
        flag j (yes e) = omega (arith, ap (λ (k : ℕ). get_or (begin {L = L} n start).met k 0) e, begin_start)
        flag j (no g) = omega (arith, begin_flag j g)
