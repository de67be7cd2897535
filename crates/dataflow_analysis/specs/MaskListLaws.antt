-- The work list over sets of locals: the first instance of the general theorem, said by elements. Assumes nothing.
use Rattle.std.specs.Prelude.{◌≡◌, ◌⊎◌, ℕ, zero, suc, ◌+◌, ◌-◌, ◌*◌, ◌^◌, ◌≤◌, ◌<◌, get_or, List, []}
use Rattle.std.proofs.Common.{sym, ap, subst, inl, inr, not-suc-le-zero, arith, eqb-true}
use mathlib.Core.List.{Memᴰ}
use Rattle.std.proofs.Math.Decide.{ℕ_discrete}
use Rattle.std.proofs.lemmas.Bool.{eqb-false}
use Rattle.std.specs.Int.Count.{ones, ones-ones}
use Rattle.std.proofs.Math.ListN.{get_or-eq_default}
use Rattle.std.proofs.Math.Pow.{ones_lt}
use Rattle.base.specs.ListLaws.{by_eq, find_in}
use Rattle.base.specs.JoinLaws.{by_lt}
use Rattle.dataflow_domains.specs.Mask.{bit, union, minus, Sub}
use Rattle.dataflow_domains.specs.MaskLaws.{bit_lt, bit_minus, bit_self, bit_other, sub_refl, sub_trans, sub_antisymm, sub_empty, sub_union_l, sub_union_r, sub_full, sub_lt, sub_of_union, union_least, ones_grows, ones_mono, ones_zero}
use Rattle.dataflow_analysis.specs.Lattice.{Laws, Bounded, masks}
use Rattle.dataflow_analysis.specs.Worklist.{State, set_at, Met, begin, run}
use Rattle.dataflow_analysis.specs.ReceiveLaws as nodes
use Rattle.dataflow_analysis.specs.WorklistLaws as general
use Rattle.dataflow_analysis.specs.LeastLaws as least

-- ---- sets are ordered by inclusion

abbrev pub mask_laws : Laws masks
mask_laws = record {
  Le = Sub;
  le_refl = sub_refl;
  le_trans = sub_trans;
  none_le = sub_empty;
  le_left = sub_union_l;
  le_right = sub_union_r;
  join_least = union_least;
  same_le = λ a b e. sub_of_union (eqb-true (union a b) a e);
}

-- a set of l elements has at most l of them
abbrev pub mask_size : (l : ℕ) → Bounded mask_laws (2 ^ l - 1)
mask_size l = record {
  size = ones;
  size_none = ones_zero;
  size_mono = ones_mono;
  size_grows = λ a b p q e. ones_grows a b (eqb-false (union a b) a e);
}

-- ---- a search that ends: one of the first n numbers is right, or none is

found_below : (P : ℕ → Type 0) → ((k : ℕ) → Dec (P k)) → (n : ℕ) → ((k : ℕ) × P k) ⊎ ((k : ℕ) → k < n → P k → ⊥)
found_below P dec zero = inr (λ k h p. not-suc-le-zero h)
found_below P dec (suc n) = here (dec n) (found_below P dec n)
  where
    here : Dec (P n) → ((k : ℕ) × P k) ⊎ ((k : ℕ) → k < n → P k → ⊥) → ((k : ℕ) × P k) ⊎ ((k : ℕ) → k < suc n → P k → ⊥)
    here (yes p) rest = inl (n, p)
    here (no g) (inl f) = inl f
    here (no g) (inr none) = inr (λ k h p. by_eq k n (λ e. g (subst P e p)) (λ q. none k (omega arith) p))

-- ---- the theorem, by elements

module _ (leads : ℕ → List ℕ) (out : ℕ → ℕ → ℕ) where
  -- what j hands on has been received by every node that it leads to
  abbrev pub MaskHanded : State masks → ℕ → Type 0
  MaskHanded st j = general.Handed mask_laws leads out st j

  -- the candidate receives all that its own sets hand on
  abbrev pub MaskSolution : (ℕ → ℕ) → Type 0
  MaskSolution c = least.Solution mask_laws leads out c

  -- no set has more than the candidate's
  abbrev pub MaskUnder : (ℕ → ℕ) → State masks → Type 0
  MaskUnder c st = general.Under mask_laws leads out c st

  -- n nodes that lead to each other, and hand on more when they have more
  pub record MaskGraph (n : ℕ) : Type 0 where
    pub inside : (k : ℕ) → nodes.AllBelow n (leads k)
    pub mono : (k a b : ℕ) → Sub a b → Sub (out k a) (out k b)

  -- sets of l elements, and a start that nothing leads to
  pub record MaskNarrow (start l : ℕ) : Type 0 where
    pub apart : (k : ℕ) → Memᴰ start (leads k) → ⊥
    pub small : (k m : ℕ) → m < 2 ^ l → out k m < 2 ^ l

  -- an element of p's set comes from a node that leads to p and hands it on
  pub record Source (st : State masks) (p i : ℕ) : Type 0 where
    pub from : ℕ
    pub met : Met st from
    pub to : Memᴰ p (leads from)
    pub gives : bit (out from (set_at st from)) i ≡ 1

  -- each element of each set has a source
  pub record Sourced (st : State masks) : Type 0 where
    pub each : (p i : ℕ) → bit (set_at st p) i ≡ 1 → Source st p i

  -- the list is empty; each met node has handed on what it has; each element has a source; no solution has less; and this many were taken
  pub record MaskBest (n start l : ℕ) (st : State masks) : Type 0 where
    pub done : st.list ≡ []
    pub first : Met st start
    pub bare : set_at st start ≡ 0
    pub handed : (j : ℕ) → Met st j → MaskHanded st j
    pub sourced : Sourced st
    pub least : (c : ℕ → ℕ) → MaskSolution c → MaskUnder c st
    pub few : st.taken + l ≤ n + n * l

  -- k is such a node
  record GivesKey (st : State masks) (p i k : ℕ) : Type 0 where
    met : Met st k
    to : Memᴰ p (leads k)
    gives : bit (out k (set_at st k)) i ≡ 1

  gives? : (st : State masks) (p i k : ℕ) → Dec (GivesKey st p i k)
  gives? st p i k = go (ℕ_discrete (get_or st.met k 0) 1) (find_in p (leads k)) (ℕ_discrete (bit (out k (set_at st k)) i) 1)
    where
      go : Dec (Met st k) → Dec (Memᴰ p (leads k)) → Dec (bit (out k (set_at st k)) i ≡ 1) → Dec (GivesKey st p i k)
      go (yes a) (yes b) (yes c) = yes (record { met = a; to = b; gives = c })
      go (yes a) (yes b) (no g) = no (λ z. g z.gives)
      go (yes a) (no g) c = no (λ z. g z.to)
      go (no g) b c = no (λ z. g z.met)

  -- only nodes are met
  pub met_inside : (n : ℕ) (st : State masks) → nodes.Ok mask_laws n st → (k : ℕ) → Met st k → k < n
  met_inside n st ok k h =
      by_lt k n (λ q. q) (λ q. absurd (omega (arith, h, get_or-eq_default st.met 0 {n = k} (omega (arith, ok.met_length)))))

  -- a set that has not i is one of the elements but i
  sub_but : (a b i : ℕ) → Sub a b → (bit a i ≡ 1 → ⊥) → Sub a (minus b (2 ^ i))
  sub_but a b i h none = record {
    each = λ d. by_eq d i (λ e. omega (arith, bit_lt a i, none, ap (bit a) e)) (λ g. omega (arith, h.each d, bit_minus b (2 ^ i) d, bit_other i d (λ e. g (sym e))));
  }

  -- an element that no node hands on could be left out of the set, which is the least above all that is handed on
  sourced_by : (n : ℕ) (st : State masks) → nodes.Ok mask_laws n st → ((j : ℕ) → Met st j → MaskHanded st j) → least.Exact mask_laws leads out st → Sourced st
  sourced_by n st ok handed exact = record { each = λ p i b. go p i b (found_below (GivesKey st p i) (gives? st p i) n) }
    where
      go : (p i : ℕ) → bit (set_at st p) i ≡ 1 → ((k : ℕ) × GivesKey st p i k) ⊎ ((k : ℕ) → k < n → GivesKey st p i k → ⊥) → Source st p i
      go p i b (inl f) = record { from = f.0; met = f.1.met; to = f.1.to; gives = f.1.gives }
      go p i b (inr none) =
          let rest : Sub (set_at st p) (minus (set_at st p) (2 ^ i)) =
          exact.each p (minus (set_at st p) (2 ^ i)) (λ k h t. sub_but (out k (set_at st k)) (set_at st p) i ((handed k h).each p t).has (λ c. none k (met_inside n st ok k h) (record { met = h; to = t; gives = c }))) in
          absurd (omega (arith, rest.each i, bit_minus (set_at st p) (2 ^ i) i, bit_self i, b))

  -- the largest set of l elements
  below_full : (l v : ℕ) → Sub v (2 ^ l - 1) → v < 2 ^ l
  below_full l v h = sub_lt l h (ones_lt l)

  -- enough removals end the run, and it is the best there is
  pub best : (n start l : ℕ) → MaskGraph n → MaskNarrow start l → start < n → (fuel : ℕ) → n + n * l ≤ fuel + l → MaskBest n start l (run leads out fuel (begin n start))
  best n start l graph narrow inside fuel enough = record {
    done = all.ended.done;
    first = all.ended.first;
    bare = sub_antisymm all.ended.bare (sub_empty _);
    handed = all.ended.handed;
    sourced = sourced_by n (run {L = masks} leads out fuel (begin n start)) all.ended.ok all.ended.handed all.exact;
    least = all.least;
    few = subst (λ (h : ℕ). (run {L = masks} leads out fuel (begin n start)).taken + h ≤ n + n * h) (ones-ones l) all.ended.few;
  }
    where
      all : least.Best mask_laws leads out (mask_size l) n start (run leads out fuel (begin n start))
      all =
          least.best mask_laws leads out (mask_size l) n start (record { inside = graph.inside }) (record { each = graph.mono })
          (record { apart = narrow.apart; small = λ k v h. sub_full l (out k v) (narrow.small k v (below_full l v h)) })
          inside fuel (subst (λ (h : ℕ). n + n * h ≤ fuel + h) (sym (ones-ones l)) enough)
