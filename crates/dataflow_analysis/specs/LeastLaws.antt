-- Where `out` is monotone the work list gives the least solution: each value is exactly the join of what is handed to it, and no solution has less. Assumes nothing.
use Rattle.std.specs.Prelude.{◌≡◌, ℕ, ◌+◌, ◌*◌, ◌≤◌, ◌<◌, List, ◌∷◌}
use Rattle.std.proofs.Common.{sym, ap, ◌∙◌, subst}
use mathlib.Core.List.{Memᴰ}
use Rattle.base.specs.ListLaws.{by_eq}
use Rattle.dataflow_analysis.specs.Lattice.{Lattice, Laws, Bounded}
use Rattle.dataflow_analysis.specs.Worklist.{State, set_at, Met, joined, receive, begin, popped, step, run}
use Rattle.dataflow_analysis.specs.WorklistLaws.{FlowGraph, Under, Narrow, Ended, met_first, popped_ok, step_ok, step_within, run_keeps, begin_under, ends}
use Rattle.dataflow_analysis.specs.ReceiveLaws.{Ok, by_news, joined_grows, joined_set, joined_set_other, receive_grows, over_keeps, begin_ok}

module _ {L : Lattice} (W : Laws L) (leads : ℕ → List ℕ) (out : ℕ → L.Value → L.Value) where
  abbrev A : Type 0
  A = L.Value

  -- a node hands on more when it has more
  pub record Monotone : Type 0 where
    pub each : (k : ℕ) (a b : A) → W.Le a b → W.Le (out k a) (out k b)

  -- p's value is the least above all that is handed to it
  pub record Exact (st : State L) : Type 0 where
    pub each : (p : ℕ) (c : A) → ((k : ℕ) → Met st k → Memᴰ p (leads k) → W.Le (out k (set_at st k)) c) → W.Le (set_at st p) c

  -- the candidate receives all that its own values hand on
  pub record Solution (c : ℕ → A) : Type 0 where
    pub each : (k p : ℕ) → Memᴰ p (leads k) → W.Le (out k (c k)) (c p)

  -- ---- a receipt keeps values exact

  module _ (mono : Monotone) (n : ℕ) (m : A) (st : State L) (p : ℕ) (ok : Ok W n st) (inside : p < n) (k : ℕ) (met : Met st k) (to : Memᴰ p (leads k))
      (gives : W.Le m (out k (set_at st k))) (ex : Exact st) where
    -- what is above all that is handed on now is above all that was handed on
    before : (q : ℕ) (c : A) → ((j : ℕ) → Met (joined m st p) j → Memᴰ q (leads j) → W.Le (out j (set_at (joined m st p) j)) c)
        → (j : ℕ) → Met st j → Memᴰ q (leads j) → W.Le (out j (set_at st j)) c
    before q c above j hj i =
        W.le_trans (mono.each j _ _ ((joined_grows W n m st p ok inside).sets j)) (above j ((joined_grows W n m st p ok inside).met j hj) i)

    joined_exact : Exact (joined m st p)
    joined_exact = record {
      each = λ q c above. by_eq q p
          (λ e. subst (λ (x : A). W.Le x c) (sym (ap (set_at (joined m st p)) e ∙ joined_set W n m st p ok inside))
          (W.join_least (ex.each p c (λ j hj i. before q c above j hj (subst (λ (x : ℕ). Memᴰ x (leads j)) (sym e) i)))
          (W.le_trans gives (before q c above k met (subst (λ (x : ℕ). Memᴰ x (leads k)) (sym e) to)))))
          (λ g. subst (λ (x : A). W.Le x c) (sym (joined_set_other W n m st p ok inside q g)) (ex.each q c (before q c above)));
    }

    pub receive_exact : Exact (receive m st p)
    receive_exact = by_news W Exact m st p (λ e. joined_exact) (λ e. ex)

  -- ---- a step

  module _ (mono : Monotone) (n : ℕ) (graph : FlowGraph W leads out n) (st : State L) (k : ℕ) (ks : List ℕ) (first : st.list ≡ k ∷ ks) (ok : Ok W n st) where
    pub step_under : (c : ℕ → A) → Solution c → Under W leads out c st → Under W leads out c (step leads out st k ks)
    step_under c sol u =
        step_within W leads out n graph st k ks first ok c (λ p i. W.le_trans (mono.each k _ _ (u.each k)) (sol.each k p i)) u

    -- what was so before the first receipt
    record Since (s : State L) : Type 0 where
      sets : (j : ℕ) → W.Le (set_at st j) (set_at s j)
      met : (j : ℕ) → Met st j → Met s j
      exact : Exact s

    pub step_exact : Exact st → Exact (step leads out st k ks)
    unfolding step popped
    step_exact ex =
        (over_keeps W Since n (out k (set_at st k)) (leads k) (graph.inside k)
        (λ s p i h o g. record {
          sets = λ j. W.le_trans (g.sets j) ((receive_grows W n (out k (set_at st k)) s p o h).sets j);
          met = λ j x. (receive_grows W n (out k (set_at st k)) s p o h).met j (g.met j x);
          exact = receive_exact mono n (out k (set_at st k)) s p o h k (g.met k (met_first W leads out n graph st k ks first ok)) i (mono.each k _ _ (g.sets k)) g.exact;
        })
        (popped st ks) (popped_ok W leads out n graph st k ks first ok)
        (record { sets = λ j. W.le_refl (set_at st j); met = λ j x. x; exact = record { each = λ p c above. ex.each p c above } })
        ).exact

  -- ---- the end

  -- the run has ended, each value is exactly what is handed to it, and no solution has less
  pub record Best {top : A} (S : Bounded W top) (n start : ℕ) (st : State L) : Type 0 where
    pub ended : Ended W leads out S n start st
    pub exact : Exact st
    pub least : (c : ℕ → A) → Solution c → Under W leads out c st

  module _ {top : A} (S : Bounded W top) (n start : ℕ) (graph : FlowGraph W leads out n) (mono : Monotone) (narrow : Narrow W leads out start top) (inside : start < n) where
    record Exactly (st : State L) : Type 0 where
      ok : Ok W n st
      exact : Exact st

    run_exact : (fuel : ℕ) → Exact (run leads out fuel (begin n start))
    run_exact fuel =
        (run_keeps W leads out Exactly
        (λ st k ks e v. record { ok = step_ok W leads out n graph st k ks e v.ok; exact = step_exact mono n graph st k ks e v.ok v.exact })
        fuel (begin n start)
        (record { ok = begin_ok W n start inside; exact = record { each = λ p c above. (begin_under W leads out n start inside (λ j. c)).each p } })
        ).exact

    -- solutions bound the run, whatever the fuel
    record Least (c : ℕ → A) (st : State L) : Type 0 where
      ok : Ok W n st
      under : Under W leads out c st

    run_least : (c : ℕ → A) → Solution c → (fuel : ℕ) → Under W leads out c (run leads out fuel (begin n start))
    run_least c sol fuel =
        (run_keeps W leads out (Least c)
        (λ st k ks e v. record { ok = step_ok W leads out n graph st k ks e v.ok; under = step_under mono n graph st k ks e v.ok c sol v.under })
        fuel (begin n start) (record { ok = begin_ok W n start inside; under = begin_under W leads out n start inside c })
        ).under

    -- enough removals end the run, and it is the best there is
    pub best : (fuel : ℕ) → n + n * S.size top ≤ fuel + S.size top → Best S n start (run leads out fuel (begin n start))
    best fuel enough = record {
      ended = ends W leads out S n start graph narrow inside fuel enough;
      exact = run_exact fuel;
      least = λ c sol. run_least c sol fuel;
    }
