-- The first nodes alone: what one of them receives is received by the state of those nodes as by the whole. Assumes nothing.
use Rattle.std.specs.Prelude.{◌≡◌, refl, Bool, cond, not, ◌||◌, List, [], ◌∷◌, ℕ, ◌<◌, eqb, get_or, set, take}
use Rattle.std.proofs.Common.{sym, ap, ◌∙◌, get_or-take}
use Rattle.std.proofs.Math.Seq.{take-set-lt}
use mathlib.Core.List.{Memᴰ}
use Rattle.base.specs.Lists.{over}
use Rattle.base.specs.ListLaws.{by_test}
use Rattle.dataflow_analysis.specs.Lattice.{Lattice}
use Rattle.dataflow_analysis.specs.Worklist.{State, set_at, news, joined, receive}
use Rattle.dataflow_analysis.specs.Receipt.{front}

-- with t removals
abbrev pub counted : {L : Lattice} → ℕ → State L → State L
counted t st = record { sets = st.sets; met = st.met; list = st.list; taken = t }

-- a receipt does not read the count of removals
pub receive_counted : {L : Lattice} (m : L.Value) (st : State L) (t p : ℕ) → receive m (counted t st) p ≡ counted t (receive m st p)
unfolding receive news joined
receive_counted m st t p =
    by_test (λ (b : Bool). cond b (joined m (counted t st) p) (counted t st) ≡ counted t (cond b (joined m st p) st)) (news m st p) (λ e. refl) (λ e. refl)

module _ {L : Lattice} (n : ℕ) where
  -- the value of one of them
  pub set_front : (st : State L) (p : ℕ) → p < n → set_at (front n st) p ≡ set_at st p
  set_front st p h = get_or-take n st.sets p L.none h

  module _ (m : L.Value) where
    -- whether one has news
    pub news_front : (st : State L) (p : ℕ) → p < n → news m (front n st) p ≡ news m st p
    unfolding news
    news_front st p h = ap (λ (x : L.Value). eqb (get_or st.met p 0) 0 || not (L.same (L.join x m) x)) (set_front st p h)

    -- one joins the list
    joined_front : (st : State L) (p : ℕ) → p < n → joined m (front n st) p ≡ front n (joined m st p)
    unfolding joined
    joined_front st p h =
        ap (λ (l : List L.Value). record { sets = l; met = (joined m st p).met; list = (joined m st p).list; taken = st.taken })
        (ap (λ (x : L.Value). set (take n st.sets) p (L.join x m)) (set_front st p h) ∙ sym (take-set-lt n st.sets p _ h))

    -- one receives
    pub receive_front : (st : State L) (p : ℕ) → p < n → receive m (front n st) p ≡ front n (receive m st p)
    unfolding receive
    receive_front st p h =
        ap (λ (b : Bool). cond b (joined m (front n st) p) (front n st)) (news_front st p h)
        ∙ by_test (λ (b : Bool). cond b (joined m (front n st) p) (front n st) ≡ front n (cond b (joined m st p) st)) (news m st p) (λ e. joined_front st p h) (λ e. refl)

    -- one after the other receives
    pub over_front : (ps : List ℕ) → ((p : ℕ) → Memᴰ p ps → p < n) → (st : State L) → over (receive m) (front n st) ps ≡ front n (over (receive m) st ps)
    over_front [] inside st = refl
    over_front (p ∷ ps) inside st =
        ap (λ (s : State L). over (receive m) s ps) (receive_front st p (inside p (Memᴰ.head refl))) ∙ over_front ps (λ q i. inside q (Memᴰ.tail i)) (receive m st p)
