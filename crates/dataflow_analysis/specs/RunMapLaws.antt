-- A work list over values and one over their images: where the image keeps joins, tests and what is handed on, its run is the image of the run. Assumes nothing.
use Rattle.std.specs.Prelude.{◌≡◌, Bool, ◌||◌, get_or, refl, cond, not, List, [], ◌∷◌, map, ℕ, zero, suc, eqb, set, replicate}
use Rattle.std.proofs.Common.{sym, ap, ap₂, subst, ◌∙◌}
use Rattle.std.proofs.Math.ListN.{get_or-map}
use Rattle.base.specs.Lists.{over}
use Rattle.base.specs.ListLaws.{by_test, copies_at, map_set}
use Rattle.dataflow_analysis.specs.Lattice.{Lattice}
use Rattle.dataflow_analysis.specs.Worklist.{State, set_at, news, joined, receive, begin, popped, step, run}
use Rattle.dataflow_analysis.specs.QueueLaws.{run_more, run_done}

-- the image of a value; the values that occur are good
pub record Image (K L : Lattice) (h : K.Value → L.Value) (Good : K.Value → Type 0) (out : ℕ → K.Value → K.Value) (out' : ℕ → L.Value → L.Value) : Type 0 where
  pub good_none : Good K.none
  pub good_join : (a b : K.Value) → Good a → Good b → Good (K.join a b)
  pub good_out : (k : ℕ) (v : K.Value) → Good v → Good (out k v)
  pub none_is : h K.none ≡ L.none
  pub join_is : (a b : K.Value) → h (K.join a b) ≡ L.join (h a) (h b)
  pub same_is : (a b : K.Value) → Good a → Good b → L.same (h a) (h b) ≡ K.same a b
  pub out_is : (k : ℕ) (v : K.Value) → Good v → h (out k v) ≡ out' k (h v)

-- the state with the images of its values
unfoldable pub image_of : (K L : Lattice) → (K.Value → L.Value) → State K → State L
image_of K L h st = record { sets = map h st.sets; met = st.met; list = st.list; taken = st.taken }

-- all its values are good
pub record AllGood (K : Lattice) (Good : K.Value → Type 0) (st : State K) : Type 0 where
  pub each : (k : ℕ) → Good (set_at st k)

module _ {K L : Lattice} {h : K.Value → L.Value} {Good : K.Value → Type 0} {out : ℕ → K.Value → K.Value} {out' : ℕ → L.Value → L.Value} (i : Image K L h Good out out') where
  -- ---- one node receives a value

  pub set_image : (l : List K.Value) (k : ℕ) → get_or (map h l) k L.none ≡ h (get_or l k K.none)
  set_image l k = ap (get_or (map h l) k) (sym i.none_is) ∙ get_or-map h l k K.none

  good_set : (l : List K.Value) (p : ℕ) (v : K.Value) → ((k : ℕ) → Good (get_or l k K.none)) → Good v → (k : ℕ) → Good (get_or (set l p v) k K.none)
  good_set [] p v f g k = f k
  good_set (x ∷ xs) zero v f g zero = g
  good_set (x ∷ xs) zero v f g (suc k) = f (suc k)
  good_set (x ∷ xs) (suc p) v f g zero = f 0
  good_set (x ∷ xs) (suc p) v f g (suc k) = good_set xs p v (λ j. f (suc j)) g k

  module _ (v : K.Value) (good : Good v) where
    module _ (st : State K) (p : ℕ) (all : AllGood K Good st) where
      news_image : news (h v) (image_of K L h st) p ≡ news v st p
      unfolding news image_of
      news_image =
          let old = set_at st p in
          ap (λ (b : Bool). eqb (get_or st.met p 0) 0 || not b)
          (ap (λ (x : L.Value). L.same (L.join x (h v)) x) (set_image st.sets p)
          ∙ ap (λ (x : L.Value). L.same x (h old)) (sym (i.join_is old v)) ∙ i.same_is _ _ (i.good_join old v (all.each p) good) (all.each p))

      joined_image : joined (h v) (image_of K L h st) p ≡ image_of K L h (joined v st p)
      unfolding joined image_of
      joined_image =
          ap (λ (l : List L.Value). record { sets = l; met = set st.met p 1; list = (joined v st p).list; taken = st.taken })
          (ap (set (map h st.sets) p) (ap (λ (x : L.Value). L.join x (h v)) (set_image st.sets p) ∙ sym (i.join_is _ v)) ∙ sym (map_set h st.sets p _))

      receive_image : receive (h v) (image_of K L h st) p ≡ image_of K L h (receive v st p)
      unfolding receive
      receive_image =
          ap₂ (λ (b : Bool) (s : State L). cond b s (image_of K L h st)) news_image joined_image
          ∙ by_test (λ (b : Bool). cond b (image_of K L h (joined v st p)) (image_of K L h st) ≡ image_of K L h (cond b (joined v st p) st)) (news v st p) (λ e. refl) (λ e. refl)

      receive_good : AllGood K Good (receive v st p)
      unfolding receive joined
      receive_good =
          by_test (λ (b : Bool). AllGood K Good (cond b (joined v st p) st)) (news v st p)
          (λ e. record { each = good_set st.sets p _ all.each (i.good_join _ v (all.each p) good) }) (λ e. all)

    -- ---- many nodes

    over_image : (ps : List ℕ) (st : State K) → AllGood K Good st → over (receive (h v)) (image_of K L h st) ps ≡ image_of K L h (over (receive v) st ps)
    over_image [] st all = refl
    over_image (p ∷ ps) st all = ap (λ (s : State L). over (receive (h v)) s ps) (receive_image st p all) ∙ over_image ps (receive v st p) (receive_good st p all)

    over_good : (ps : List ℕ) (st : State K) → AllGood K Good st → AllGood K Good (over (receive v) st ps)
    over_good [] st all = all
    over_good (p ∷ ps) st all = over_good ps (receive v st p) (receive_good st p all)

  -- ---- the run

  module _ (leads : ℕ → List ℕ) where
    module _ (st : State K) (k : ℕ) (ks : List ℕ) (all : AllGood K Good st) where
      step_image : step leads out' (image_of K L h st) k ks ≡ image_of K L h (step leads out st k ks)
      unfolding step popped image_of
      step_image =
          ap (λ (v : L.Value). over (receive v) (image_of K L h (popped st ks)) (leads k)) (ap (out' k) (set_image st.sets k) ∙ sym (i.out_is k _ (all.each k)))
          ∙ over_image _ (i.good_out k _ (all.each k)) (leads k) (popped st ks) (record { each = all.each })

      step_good : AllGood K Good (step leads out st k ks)
      unfolding step popped
      step_good = over_good _ (i.good_out k _ (all.each k)) (leads k) (popped st ks) (record { each = all.each })

    pub run_image : (fuel : ℕ) (st : State K) → AllGood K Good st → run leads out' fuel (image_of K L h st) ≡ image_of K L h (run leads out fuel st)
    unfolding run
    run_image zero st all = refl
    run_image (suc fuel) st all = go st.list refl (λ k ks. run_image fuel (step leads out st k ks) (step_good st k ks all))
      where
        listed : (image_of K L h st).list ≡ st.list
        listed = unfold image_of in refl

        go : (l : List ℕ) → st.list ≡ l
            → ((k : ℕ) (ks : List ℕ) → run leads out' fuel (image_of K L h (step leads out st k ks)) ≡ image_of K L h (run leads out fuel (step leads out st k ks)))
            → run leads out' (suc fuel) (image_of K L h st) ≡ image_of K L h (run leads out (suc fuel) st)
        go [] e rest = run_done leads out' (suc fuel) (image_of K L h st) (listed ∙ e) ∙ ap (image_of K L h) (sym (run_done leads out (suc fuel) st e))
        go (k ∷ ks) e rest =
            run_more leads out' fuel (image_of K L h st) k ks (listed ∙ e) ∙ ap (run leads out' fuel) (step_image st k ks all) ∙ rest k ks
            ∙ ap (image_of K L h) (sym (run_more leads out fuel st k ks e))

    pub run_good : (fuel : ℕ) (st : State K) → AllGood K Good st → AllGood K Good (run leads out fuel st)
    unfolding run
    run_good zero st all = all
    run_good (suc fuel) st all =
        elim st.list as (λ l. AllGood K Good (elim l as (λ _. State K) [ [] ↦ st | k ∷ ks ↦ run leads out fuel (step leads out st k ks) ])) [ [] ↦ all | k ∷ ks ↦ run_good fuel (step leads out st k ks) (step_good st k ks all) ]

  -- ---- the beginning

  pub begin_image : (n start : ℕ) → image_of K L h (begin n start) ≡ begin {L = L} n start
  unfolding image_of begin
  begin_image n start = ap (λ (l : List L.Value). record { sets = l; met = set (replicate n 0) start 1; list = start ∷ []; taken = 0 }) (copies n)
    where
      copies : (n : ℕ) → map h (replicate n K.none) ≡ replicate n L.none
      copies zero = refl
      copies (suc n) = ap₂ ◌∷◌ i.none_is (copies n)

  pub begin_good : (n start : ℕ) → AllGood K Good (begin n start)
  unfolding begin
  begin_good n start = record { each = λ k. subst Good (sym (copies_at n k K.none)) i.good_none }
