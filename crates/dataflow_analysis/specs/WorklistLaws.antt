-- The work list ends, over any graph and any values with a join: each node has handed on what it has, and no more are taken than the values can grow. Assumes nothing.
use Rattle.std.specs.Prelude.{◌≡◌, ◌⊎◌, ◌≢◌, true, cond, eqb, get_or, set, replicate, refl, List, [], ◌∷◌, map, ℕ, zero, suc, ◌+◌, ◌-◌, ◌*◌, ◌≤◌, ◌<◌, length}
use Rattle.std.proofs.Common.{ap, subst, sym, ◌∙◌, not-suc-le-zero, arith, eq-eqb, ne_eqb, length-set, get_or-set_same, get_or-set_other, inl, inr, ⊎_elim, mul-one}
use mathlib.Core.List.Memᴰ
use mathlib.Core.List.{Memᴰ}
use Rattle.std.proofs.Math.Decide.{ℕ_discrete}
use Rattle.std.proofs.lemmas.List.{length-replicate, length-map}
use Rattle.base.specs.Lists.{over, sum}
use Rattle.base.specs.ListLaws.{by_test, by_eq, copies_at, sum_set, sum_le}
use Rattle.dataflow_analysis.specs.Lattice.{Lattice, Laws, Bounded}
use Rattle.dataflow_analysis.specs.Worklist.{State, set_at, Met, news, joined, receive, begin, popped, step, run}
use Rattle.dataflow_analysis.specs.ReceiveLaws.{AllBelow, by_news, Ok, Grows, grows_trans, joined_set, joined_set_other, joined_met_other, joined_grows, joined_ok, over_keeps, over_ok, over_grows, Has, over_has, room, CountedState, size_at, sizes_set, joined_room, receive_counted, begin_start, begin_set, begin_met, begin_ok}

module _ {L : Lattice} (W : Laws L) (leads : ℕ → List ℕ) (out : ℕ → L.Value → L.Value) where
  abbrev A : Type 0
  A = L.Value

  -- ---- the graph

  -- n nodes that lead to each other
  pub record FlowGraph (n : ℕ) : Type 0 where
    pub inside : (k : ℕ) → AllBelow n (leads k)

  -- what j hands on has been received by every node that it leads to
  pub record Handed (st : State L) (j : ℕ) : Type 0 where
    pub each : (p : ℕ) → Memᴰ p (leads j) → Has W (out j (set_at st j)) st p

  -- every met node is on the list, or has handed on what it has; but for k, which is being worked on while its value is s
  pub record CoverBut (k : ℕ) (s : A) (st : State L) : Type 0 where
    pub each : (j : ℕ) → Met st j → Memᴰ j st.list ⊎ (Handed st j ⊎ ((j ≡ k) × (set_at st j ≡ s)))

  -- every one
  pub record Cover (st : State L) : Type 0 where
    pub each : (j : ℕ) → Met st j → Memᴰ j st.list ⊎ Handed st j

  -- no value has more than the candidate's
  pub record Under (c : ℕ → A) (st : State L) : Type 0 where
    pub each : (j : ℕ) → W.Le (set_at st j) (c j)

  -- ---- a receipt keeps each of these

  module _ (n : ℕ) (graph : FlowGraph n) (m : A) (st : State L) (p : ℕ) (ok : Ok W n st) (inside : p < n) where
    joined_handed : (j : ℕ) → j ≢ p → Handed st j → Handed (joined m st p) j
    joined_handed j g h = record { each = λ q i. kept q (h.each q i) }
      where
        kept : (q : ℕ) → Has W (out j (set_at st j)) st q → Has W (out j (set_at (joined m st p) j)) (joined m st p) q
        kept q had = record {
          met = (joined_grows W n m st p ok inside).met q had.met;
          has = subst (λ (x : A). W.Le (out j x) (set_at (joined m st p) q)) (sym (joined_set_other W n m st p ok inside j g)) (W.le_trans had.has ((joined_grows W n m st p ok inside).sets q));
        }

    joined_last : Memᴰ p (joined m st p).list
    unfolding joined
    joined_last = Memᴰ.append_right st.list (Memᴰ.head refl)

    joined_first : (j : ℕ) → Memᴰ j st.list → Memᴰ j (joined m st p).list
    unfolding joined
    joined_first j i = Memᴰ.append_left (p ∷ []) i

    joined_cover : (k : ℕ) (s : A) → CoverBut k s st → CoverBut k s (joined m st p)
    joined_cover k s c = record { each = λ j h. go j h (ℕ_discrete j p) }
      where
        go : (j : ℕ) → Met (joined m st p) j → Dec (j ≡ p)
            → Memᴰ j (joined m st p).list ⊎ (Handed (joined m st p) j ⊎ ((j ≡ k) × (set_at (joined m st p) j ≡ s)))
        go j h (yes e) = inl (Memᴰ.cast e joined_last)
        go j h (no g) =
            ⊎_elim (λ i. inl (joined_first j i))
            (⊎_elim (λ d. inr (inl (joined_handed j g d)))
            (λ q. inr (inr (q.0, joined_set_other W n m st p ok inside j g ∙ q.1))))
            (c.each j (sym (joined_met_other W n m st p ok inside j g) ∙ h))

    receive_cover : (k : ℕ) (s : A) → CoverBut k s st → CoverBut k s (receive m st p)
    receive_cover k s c = by_news W (CoverBut k s) m st p (λ e. joined_cover k s c) (λ e. c)

    pub joined_under : (c : ℕ → A) → W.Le m (c p) → Under c st → Under c (joined m st p)
    joined_under c h u = record { each = λ j. go j (ℕ_discrete j p) }
      where
        go : (j : ℕ) → Dec (j ≡ p) → W.Le (set_at (joined m st p) j) (c j)
        go j (yes e) =
            subst (λ (k : ℕ). W.Le (set_at (joined m st p) k) (c k)) (sym e)
            (subst (λ (x : A). W.Le x (c p)) (sym (joined_set W n m st p ok inside)) (W.join_least (u.each p) h))
        go j (no g) = subst (λ (x : A). W.Le x (c j)) (sym (joined_set_other W n m st p ok inside j g)) (u.each j)

    pub receive_under : (c : ℕ → A) → W.Le m (c p) → Under c st → Under c (receive m st p)
    receive_under c h u = by_news W (Under c) m st p (λ e. joined_under c h u) (λ e. u)

  -- ---- a step keeps each of these

  module _ (n : ℕ) (graph : FlowGraph n) (st : State L) (k : ℕ) (ks : List ℕ) (first : st.list ≡ k ∷ ks) (ok : Ok W n st) where
    -- what k hands on
    abbrev m : A
    m = out k (set_at st k)

    pub met_first : Met st k
    met_first = ok.waiting k (subst (λ (l : List ℕ). Memᴰ k l) (sym first) (Memᴰ.head refl))

    pub popped_ok : Ok W n (popped st ks)
    unfolding popped
    popped_ok = record {
      sets_length = ok.sets_length;
      met_length = ok.met_length;
      flags = ok.flags;
      waiting = λ j i. ok.waiting j (subst (λ (l : List ℕ). Memᴰ j l) (sym first) (Memᴰ.tail i));
    }

    popped_sets : (j : ℕ) → set_at (popped st ks) j ≡ set_at st j
    unfolding popped
    popped_sets j = refl

    popped_cover : Cover st → CoverBut k (set_at st k) (popped st ks)
    unfolding popped
    popped_cover c = record { each = λ j h. go j (c.each j h) }
      where
        go : (j : ℕ) → Memᴰ j st.list ⊎ Handed st j
            → Memᴰ j ks ⊎ (Handed (popped st ks) j ⊎ ((j ≡ k) × (set_at (popped st ks) j ≡ set_at st k)))
        go j (inl i) =
            ⊎_elim (λ e. inr (inr (e, ap (set_at st) e))) (λ t. inl t)
            (Memᴰ.cases_cons (subst (λ (l : List ℕ). Memᴰ j l) first i))
        go j (inr h) = inr (inl (record { each = λ p i. record { met = (h.each p i).met; has = (h.each p i).has } }))

    pub step_ok : Ok W n (step leads out st k ks)
    unfolding step
    step_ok = over_ok W n m (leads k) (graph.inside k) (popped st ks) popped_ok

    pub step_grows : Grows W st (step leads out st k ks)
    unfolding step popped
    step_grows = grows_trans W (record { sets = λ j. W.le_refl (set_at st j); met = λ j h. h }) (over_grows W n m (leads k) (graph.inside k) (popped st ks) popped_ok)

    pub step_cover : Cover st → Cover (step leads out st k ks)
    unfolding step
    step_cover c = record { each = λ j h. go j (after.each j h) }
      where
        new : State L
        new = over (receive m) (popped st ks) (leads k)

        after : CoverBut k (set_at st k) (over (receive m) (popped st ks) (leads k))
        after =
            over_keeps W (CoverBut k (set_at st k)) n m (leads k) (graph.inside k)
            (λ s p i h o g. receive_cover n graph m s p o h k (set_at st k) g) (popped st ks) popped_ok (popped_cover c)

        go : (j : ℕ) → Memᴰ j new.list ⊎ (Handed new j ⊎ ((j ≡ k) × (set_at new j ≡ set_at st k))) → Memᴰ j new.list ⊎ Handed new j
        go j (inl i) = inl i
        go j (inr (inl h)) = inr h
        go j (inr (inr e)) =
            inr (subst (λ (x : ℕ). Handed new x) (sym e.0) (record {
              each = λ p i. subst (λ (x : A). Has W (out k x) new p) (sym (ap (set_at new) (sym e.0) ∙ e.1)) (over_has W n m (leads k) (graph.inside k) (popped st ks) popped_ok p i);
            }))

    -- where all that it hands on is within the candidate's values
    pub step_within : (c : ℕ → A) → ((p : ℕ) → Memᴰ p (leads k) → W.Le (out k (set_at st k)) (c p)) → Under c st → Under c (step leads out st k ks)
    unfolding step
    step_within c within u =
        over_keeps W (Under c) n m (leads k) (graph.inside k) (λ s p i h o g. receive_under n graph m s p o h c (within p i) g)
        (popped st ks) popped_ok (record { each = λ j. subst (λ (x : A). W.Le x (c j)) (sym (popped_sets j)) (u.each j) })

    module _ {top : A} (S : Bounded W top) (small : W.Le m top) where
      popped_counted : CountedState W S st → CountedState W S (popped st ks)
      unfolding popped room
      popped_counted c = record { fits = omega (arith, c.fits, ap length first) }

      record Fits (s : State L) : Type 0 where
        within : Under (λ j. top) s
        counted : CountedState W S s

      step_counted : Under (λ j. top) st → CountedState W S st → CountedState W S (step leads out st k ks)
      unfolding step popped
      step_counted u c =
          (over_keeps W Fits n m (leads k) (graph.inside k)
          (λ s p i h o g. record { within = receive_under n graph m s p o h (λ j. top) small g.within; counted = receive_counted W S n m s p o h (g.within.each p) small g.counted })
          (popped st ks) popped_ok (record { within = record { each = u.each }; counted = popped_counted c })
          ).counted

  -- ---- the run keeps what a step keeps

  pub run_keeps : (P : State L → Type 0) → ((st : State L) (k : ℕ) (ks : List ℕ) → st.list ≡ k ∷ ks → P st → P (step leads out st k ks))
      → (fuel : ℕ) (st : State L) → P st → P (run leads out fuel st)
  unfolding run
  run_keeps P keep zero st h = h
  run_keeps P keep (suc fuel) st h = go st.list refl (λ s. run_keeps P keep fuel s)
    where
      go : (l : List ℕ) → st.list ≡ l → ((s : State L) → P s → P (run leads out fuel s)) → P (elim l [ [] ↦ st | k ∷ ks ↦ run leads out fuel (step leads out st k ks) ])
      go [] e rest = h
      go (k ∷ ks) e rest = rest (step leads out st k ks) (keep st k ks e h)

  pub over_taken : (m : A) (ps : List ℕ) (st : State L) → (over (receive m) st ps).taken ≡ st.taken
  over_taken m [] st = refl
  over_taken m (p ∷ ps) st =
      over_taken m ps (receive m st p) ∙ by_news W (λ (s : State L). s.taken ≡ st.taken) m st p (λ e. unfold joined in refl) (λ e. refl)

  pub step_taken : (st : State L) (k : ℕ) (ks : List ℕ) → (step leads out st k ks).taken ≡ suc st.taken
  unfolding step popped
  step_taken st k ks = over_taken (out k (set_at st k)) (leads k) (popped st ks)

  empty : (l : List ℕ) → length l ≤ 0 → l ≡ []
  empty [] h = refl
  empty (x ∷ xs) h = absurd (not-suc-le-zero h)

  -- where no more than b can be taken, b removals empty the list
  pub run_ends : (P : State L → Type 0) (b : ℕ) → ((st : State L) (k : ℕ) (ks : List ℕ) → st.list ≡ k ∷ ks → P st → P (step leads out st k ks))
      → ((st : State L) → P st → st.taken + length st.list ≤ b)
      → (fuel : ℕ) (st : State L) → P st → b ≤ st.taken + fuel → (run leads out fuel st).list ≡ []
  unfolding run
  run_ends P b keep few zero st h enough = empty st.list (omega (arith, few st h, enough))
  run_ends P b keep few (suc fuel) st h enough = go st.list refl (λ s. run_ends P b keep few fuel s)
    where
      go : (l : List ℕ) → st.list ≡ l → ((s : State L) → P s → b ≤ s.taken + fuel → (run leads out fuel s).list ≡ [])
          → (elim l as (λ _. State L) [ [] ↦ st | k ∷ ks ↦ run leads out fuel (step leads out st k ks) ]).list ≡ []
      go [] e rest = e
      go (k ∷ ks) e rest = rest (step leads out st k ks) (keep st k ks e h) (omega (arith, enough, step_taken st k ks))

  -- ---- values within a top, and a start that nothing leads to

  pub record Narrow (start : ℕ) (top : A) : Type 0 where
    pub apart : (k : ℕ) → Memᴰ start (leads k) → ⊥
    pub small : (k : ℕ) (v : A) → W.Le v top → W.Le (out k v) top

  -- the largest values there can be: nothing at the start, the top everywhere else
  pub full : ℕ → A → ℕ → A
  full start top j = cond (eqb j start) L.none top

  pub full_at : (start : ℕ) (top : A) (j : ℕ) → j ≢ start → full start top j ≡ top
  unfolding full
  full_at start top j h = rw (ne_eqb j start h)

  pub full_start : (start : ℕ) (top : A) → full start top start ≡ L.none
  unfolding full
  full_start start top = rw (eq-eqb start start refl)

  pub full_le : (start : ℕ) (top : A) (j : ℕ) → W.Le (full start top j) top
  unfolding full
  full_le start top j = by_test (λ b. W.Le (cond b L.none top) top) (eqb j start) (λ e. W.none_le top) (λ e. W.le_refl top)

  -- what any node hands on within the top is within the largest values
  pub full_within : (start : ℕ) (top : A) → Narrow start top → (k p : ℕ) → Memᴰ p (leads k) → (v : A) → W.Le v top → W.Le (out k v) (full start top p)
  full_within start top nw k p i v h =
      subst (λ (x : A). W.Le (out k v) x) (sym (full_at start top p (λ e. nw.apart k (Memᴰ.cast (sym e) i)))) (nw.small k v h)

  -- there is room for n flags, and for the top's size in each value but the start's
  pub room_le : {top : A} (S : Bounded W top) (n start : ℕ) (st : State L) → Ok W n st → start < n → Under (full start top) st → room W S st + S.size top ≤ n + n * S.size top
  unfolding room
  room_le {top} S n start st ok inside u = omega (arith, flags, values, filled, bare)
    where
      flags : sum st.met ≤ n
      flags = omega (arith, sum_le 1 st.met (λ i h. ok.flags i), mul-one (length st.met), ok.met_length)

      values : sum (map S.size (set st.sets start top)) + S.size (set_at st start) ≡ sum (map S.size st.sets) + S.size top
      values = sizes_set W S st.sets start top (omega (arith, ok.sets_length))

      bare : S.size (set_at st start) ≤ 0
      bare = omega (arith, S.size_mono _ _ (u.each start), ap S.size (full_start start top), S.size_none)

      each : (i : ℕ) → S.size (get_or (set st.sets start top) i L.none) ≤ S.size top
      each i =
          by_eq i start
          (λ e. omega (arith, ap S.size (ap (λ (x : ℕ). get_or (set st.sets start top) x L.none) e ∙ get_or-set_same st.sets start top L.none (omega (arith, ok.sets_length)))))
          (λ g. omega (arith, ap S.size (get_or-set_other st.sets start i top L.none g), S.size_mono _ _ (u.each i), ap S.size (full_at start top i g)))

      filled : sum (map S.size (set st.sets start top)) ≤ n * S.size top
      filled =
          subst (λ (x : ℕ). sum (map S.size (set st.sets start top)) ≤ x * S.size top)
          (length-map (set st.sets start top) S.size ∙ length-set st.sets start top ∙ ok.sets_length)
          (sum_le (S.size top) (map S.size (set st.sets start top)) (λ i h. omega (arith, size_at W S (set st.sets start top) i, each i)))

  -- where there is news, a queue of the bound's length has a place for it: what `put` requires
  pub put_fits : {top : A} (S : Bounded W top) (n start : ℕ) (m : A) (st : State L) (p : ℕ) → FlowGraph n → Ok W n st → p < n → start < n → Under (full start top) st
      → W.Le m (full start top p) → CountedState W S st → news m st p ≡ true → st.taken + length st.list + S.size top < n + n * S.size top
  put_fits {top} S n start m st p graph ok inside begins u h c e =
      omega (arith, c.fits, joined_room W S n m st p ok inside (W.le_trans (u.each p) (full_le start top p)) (W.le_trans h (full_le start top p)) e, room_le S n start (joined m st p) (joined_ok W n m st p ok inside) begins (joined_under n graph m st p ok inside (full start top) h u))

  -- ---- the beginning

  module _ (n start : ℕ) (inside : start < n) where
    pub begin_cover : Cover (begin n start)
    begin_cover = record { each = λ j h. inl (Memᴰ.cast (begin_met W n start inside j h) (unfold begin in Memᴰ.head refl)) }

    pub begin_under : (c : ℕ → A) → Under c (begin n start)
    begin_under c = record { each = λ j. subst (λ (x : A). W.Le x (c j)) (sym (begin_set W n start inside j)) (W.none_le (c j)) }

    pub begin_counted : {top : A} (S : Bounded W top) → CountedState W S (begin n start)
    unfolding begin room
    begin_counted S = record {
      fits = omega (arith, sum_set (replicate n 0) start 1 (omega (arith, length-replicate {A = ℕ} n 0)), copies_at {A = ℕ} n start 0);
    }

  -- ---- the end

  -- what holds after each step
  pub record Inv {top : A} (S : Bounded W top) (n start : ℕ) (st : State L) : Type 0 where
    pub ok : Ok W n st
    pub cover : Cover st
    pub counted : CountedState W S st
    pub under : Under (full start top) st
    pub first : Met st start

  -- the list is empty; each met node has handed on what it has; and this many were taken
  pub record Ended {top : A} (S : Bounded W top) (n start : ℕ) (st : State L) : Type 0 where
    pub ok : Ok W n st
    pub done : st.list ≡ []
    pub first : Met st start
    pub bare : W.Le (set_at st start) L.none
    pub handed : (j : ℕ) → Met st j → Handed st j
    pub few : st.taken + S.size top ≤ n + n * S.size top

  module _ {top : A} (S : Bounded W top) (n start : ℕ) (graph : FlowGraph n) (narrow : Narrow start top) (inside : start < n) where
    pub step_inv : (st : State L) (k : ℕ) (ks : List ℕ) → st.list ≡ k ∷ ks → Inv S n start st → Inv S n start (step leads out st k ks)
    step_inv st k ks e v =
        let within : (j : ℕ) → W.Le (set_at st j) top = λ j. W.le_trans (v.under.each j) (full_le start top j) in
        record {
          ok = step_ok n graph st k ks e v.ok;
          cover = step_cover n graph st k ks e v.ok v.cover;
          counted = step_counted n graph st k ks e v.ok S (narrow.small k (set_at st k) (within k)) (record { each = within }) v.counted;
          under = step_within n graph st k ks e v.ok (full start top) (λ p i. full_within start top narrow k p i (set_at st k) (within k)) v.under;
          first = (step_grows n graph st k ks e v.ok).met start v.first;
        }

    pub begin_inv : Inv S n start (begin n start)
    begin_inv = record {
      ok = begin_ok W n start inside;
      cover = begin_cover n start inside;
      counted = begin_counted n start inside S;
      under = begin_under n start inside (full start top);
      first = begin_start W n start inside;
    }

    pub inv_few : (st : State L) → Inv S n start st → st.taken + length st.list + S.size top ≤ n + n * S.size top
    inv_few st v = omega (arith, v.counted.fits, room_le S n start st v.ok inside v.under)

    -- within the largest values, and counted
    record Handing (s : State L) : Type 0 where
      within : Under (full start top) s
      counted : CountedState W S s

    -- while k hands on, and the nodes of ps have received, a node with news finds a place in a queue of the bound's length
    pub hand_fits : (st : State L) (k : ℕ) (ks : List ℕ) → st.list ≡ k ∷ ks → Inv S n start st → (ps : List ℕ) → ((p : ℕ) → Memᴰ p ps → Memᴰ p (leads k))
        → (p : ℕ) → Memᴰ p (leads k) → news (out k (set_at st k)) (over (receive (out k (set_at st k))) (popped st ks) ps) p ≡ true
        → (over (receive (out k (set_at st k))) (popped st ks) ps).taken + length (over (receive (out k (set_at st k))) (popped st ks) ps).list + S.size top < n + n * S.size top
    hand_fits st k ks first v ps part p to e =
        put_fits S n start (out k (set_at st k)) now p graph (over_ok W n (out k (set_at st k)) ps inside_ps (popped st ks) ok) ((graph.inside k).each p to) inside held.within (fits p to) held.counted e
      where
        now : State L
        now = over (receive (out k (set_at st k))) (popped st ks) ps

        inside_ps : AllBelow n ps
        inside_ps = record { each = λ q i. (graph.inside k).each q (part q i) }

        ok : Ok W n (popped st ks)
        ok = popped_ok n graph st k ks first v.ok

        own : W.Le (set_at st k) top
        own = W.le_trans (v.under.each k) (full_le start top k)

        small : W.Le (out k (set_at st k)) top
        small = narrow.small k (set_at st k) own

        fits : (q : ℕ) → Memᴰ q (leads k) → W.Le (out k (set_at st k)) (full start top q)
        fits q i = full_within start top narrow k q i (set_at st k) own

        begun : Under (full start top) (popped st ks)
        begun = record { each = λ j. subst (λ (x : A). W.Le x (full start top j)) (sym (popped_sets n graph st k ks first v.ok j)) (v.under.each j) }

        held : Handing (over (receive (out k (set_at st k))) (popped st ks) ps)
        held =
            over_keeps W Handing n (out k (set_at st k)) ps inside_ps
            (λ s q i h o g. record {
              within = receive_under n graph (out k (set_at st k)) s q o h (full start top) (fits q (part q i)) g.within;
              counted = receive_counted W S n (out k (set_at st k)) s q o h (W.le_trans (g.within.each q) (full_le start top q)) small g.counted;
            })
            (popped st ks) ok (record { within = begun; counted = popped_counted n graph st k ks first v.ok S small v.counted })

    pub ends : (fuel : ℕ) → n + n * S.size top ≤ fuel + S.size top → Ended S n start (run leads out fuel (begin n start))
    ends fuel enough = record {
      ok = last.ok;
      done = done;
      first = last.first;
      bare = subst (λ (x : A). W.Le (set_at (run {L = L} leads out fuel (begin n start)) start) x) (full_start start top) (last.under.each start);
      handed = λ j h. ⊎_elim (λ i. absurd (Memᴰ.not-nil (subst (λ (x : List ℕ). Memᴰ j x) done i))) (λ d. d) (last.cover.each j h);
      few = omega (arith, inv_few (run leads out fuel (begin n start)) last);
    }
      where
        last : Inv S n start (run leads out fuel (begin n start))
        last = run_keeps (Inv S n start) step_inv fuel (begin n start) begin_inv

        done : (run leads out fuel (begin {L = L} n start)).list ≡ []
        done =
            run_ends (Inv S n start) (n + n * S.size top - S.size top) step_inv (λ st v. omega (arith, inv_few st v)) fuel (begin n start) begin_inv (unfold begin in omega (arith, enough))
