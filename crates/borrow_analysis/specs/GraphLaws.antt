-- Checks 12 to 14 as the code makes them: the order of triples, a triple, the live nodes, and the places. Assumes nothing.
use Rattle.std.specs.Prelude.{Option, None, Some, ◌≡◌, refl, Bool, true, false, cond, not, ◌||◌, ◌&&◌, List, ℕ, zero, suc, ◌+◌, ◌-◌, ◌*◌, ◌/◌, ◌%◌, ◌^◌, ◌≤◌, ◌<◌, eqb, leb, ltb, get_or, length}
use Rattle.std.proofs.Common.{sym, ap, ◌∙◌, add-one, arith, lt-ltb, le-ltb, le-leb, eq-eqb, ne_eqb, leb-true, subst, ap₂, pow_pos, le_trans, div-lt_iff_lt-mul}
use Rattle.std.proofs.lemmas.Bool.{lt-leb}
use Rattle.std.proofs.lemmas.Bool.Decides.{nat_tests}
use Rattle.std.specs.Ordering.{partial_lt}
use Rattle.std.specs.List.{find, range_with_len}
use Rattle.std.specs.Option.{SomeIff, unwrap_or}
use Rattle.std.proofs.Math.Nat.{div-eq_of_lt}
use Rattle.std.proofs.Math.Pow.{pow_mono}
use Rattle.base.specs.JoinLaws.{by_lt}
use Rattle.base.specs.Lists.{first_bad}
use Rattle.base.specs.SearchLaws.{bad_lt}
use Rattle.base.specs.Sizes.{max_locals, max_triples}
use Rattle.borrow_analysis.specs.declared.triples.Triple.{Triple}
use Rattle.borrow_analysis.specs.contracts.triples.TriplePartialOrd as order
use Rattle.borrow_analysis.specs.Graph.{triple_at, nodes_ok, rank, triple_ok, length_place, triples_bad}

-- ---- the order of triples

-- the first number that differs decides, as in the derived order
module _ (t u : Triple) (hc : t.child < 2 ^ 32) (he : t.edge < 2 ^ 32) (hd : u.child < 2 ^ 32) (hf : u.edge < 2 ^ 32) where
  pub rank_less : partial_lt order.TheImpl.partial_cmp-value.it t u ≡ ltb (rank t) (rank u)
  unfolding rank
  rank_less = grind (arith, nat_tests)

  -- its cases: the parents differ; the children, of one parent; the edges, of one parent and child
  pub rank_parent : (t.parent ≡ u.parent → ⊥) → ltb t.parent u.parent ≡ ltb (rank t) (rank u)
  unfolding rank
  rank_parent g = grind (arith, nat_tests)

  pub rank_child : t.parent ≡ u.parent → (t.child ≡ u.child → ⊥) → ltb t.child u.child ≡ ltb (rank t) (rank u)
  unfolding rank
  rank_child s g = grind (arith, nat_tests)

  pub rank_edge : t.parent ≡ u.parent → t.child ≡ u.child → ltb t.edge u.edge ≡ ltb (rank t) (rank u)
  unfolding rank
  rank_edge s g = grind (arith, nat_tests)

-- ---- one triple

-- what its tests come to
pub triple_is : (nodes : ℕ) (xs : List ℕ) (i : ℕ) {t : Triple} → t ≡ triple_at xs i → (a b c d : Bool) → ltb t.parent nodes ≡ a → ltb t.child nodes ≡ b → eqb i 0 ≡ c
    → ltb (rank (triple_at xs (i - 1))) (rank t) ≡ d → (a && b && (c || d)) ≡ triple_ok nodes xs i
unfolding triple_ok
triple_is nodes xs i is a b c d p q r s =
    rw (← p, ← q, ← r, ← s) (ap (λ (u : Triple). ltb u.parent nodes && ltb u.child nodes && (eqb i 0 || ltb (rank (triple_at xs (i - 1))) (rank u))) is)

-- its nodes are below the count, and it is not the first: its order decides
pub triple_last : (nodes : ℕ) (xs : List ℕ) (i : ℕ) {t u : Triple} {b : Bool} → t ≡ triple_at xs i → u ≡ triple_at xs (i - 1) → (t.parent < nodes) × (t.child < nodes) → (i ≡ 0 → ⊥)
    → b ≡ ltb (rank u) (rank t) → b ≡ triple_ok nodes xs i
unfolding triple_ok
triple_last nodes xs i e f inside g h =
    let p : ltb (get_or xs (3 * i) 0) nodes ≡ true = lt-ltb _ _ (subst (λ (t : Triple). t.parent < nodes) e inside.0) in
    let q : ltb (get_or xs (3 * i + 1) 0) nodes ≡ true = lt-ltb _ _ (subst (λ (t : Triple). t.child < nodes) e inside.1) in
    h ∙ ap₂ (λ (x y : Triple). ltb (rank x) (rank y)) f e ∙ rw (p, q, ne_eqb i 0 g)

-- ---- 12

-- a number is below a power of two where nothing is left of it by a shift
none_above : (m n : ℕ) → eqb (m / 2 ^ n) 0 ≡ ltb m (2 ^ n)
none_above m n =
    by_lt m (2 ^ n) (λ l. eq-eqb _ _ (div-eq_of_lt l) ∙ sym (lt-ltb m (2 ^ n) l))
    (λ l. ne_eqb _ _ (λ e. let below : m < 1 * 2 ^ n = (div-lt_iff_lt-mul (pow_pos n)).0 (omega (arith, e)) in omega arith) ∙ sym (le-ltb m (2 ^ n) l))

pub nodes_many : (nodes live : ℕ) → max_locals < nodes → false ≡ nodes_ok nodes live
unfolding nodes_ok
nodes_many nodes live h = rw (lt-leb nodes max_locals h)

-- few nodes: the live ones are all below the count
pub nodes_few : (nodes live : ℕ) → nodes ≤ max_locals → ltb live (2 ^ nodes) ≡ nodes_ok nodes live
unfolding nodes_ok
nodes_few nodes live h = rw (le-leb nodes max_locals h)

-- and as a word of 64 bits tells: what is left of it by the shift; the shift is none where there is no place as high
pub nodes_few_64 : (nodes live : ℕ) (above : Option ℕ) → nodes ≤ max_locals → live < 2 ^ 64 → SomeIff above (nodes < 64) (live / 2 ^ nodes) → eqb (unwrap_or above 0) 0 ≡ nodes_ok nodes live
unfolding nodes_ok
nodes_few_64 nodes live None h fits e = rw (le-leb nodes max_locals h) (sym (lt-ltb live (2 ^ nodes) (le_trans fits (pow_mono {i = 64} {j = nodes} (omega (arith, e))))))
nodes_few_64 nodes live (Some x) h fits e = rw (le-leb nodes max_locals h) (ap (λ (y : ℕ). eqb y 0) e.1 ∙ none_above live nodes)

-- ---- 13

-- the library's search for a place at which the test does not hold
find_bad : (n k : ℕ) (ok : ℕ → Bool) → find (λ i. not (ok i)) (range_with_len k n) ≡ first_bad n k ok
unfolding first_bad
find_bad zero k ok = refl
find_bad (suc n) k ok = ap (λ (j : ℕ). cond (not (ok k)) (Some k) (find (λ i. not (ok i)) (range_with_len j n))) (add-one k) ∙ either (ok k) (find_bad n (suc k) ok)
  where
    either : (t : Bool) → find (λ i. not (ok i)) (range_with_len (suc k) n) ≡ first_bad n (suc k) ok
        → cond (not t) (Some k) (find (λ i. not (ok i)) (range_with_len (suc k) n)) ≡ elim t as (λ _. Option ℕ) [ true ↦ first_bad n (suc k) ok | false ↦ Some k ]
    either true q = q
    either false q = refl

module _ (nodes : ℕ) (xs : List ℕ) where
  -- so what the code finds is the first bad triple
  pub found_bad : find (λ i. not (triple_ok nodes xs i)) (range_with_len 0 (length xs / 3)) ≡ first_bad (length xs / 3) 0 (triple_ok nodes xs)
  found_bad = find_bad (length xs / 3) 0 (triple_ok nodes xs)

  -- no multiple of three; too many; else the first bad triple
  pub length_odd : (length xs % 3 ≡ 0 → ⊥) → Some length_place ≡ triples_bad nodes xs
  unfolding triples_bad
  length_odd h = rw (ne_eqb (length xs % 3) 0 h)

  pub length_over : length xs % 3 ≡ 0 → max_triples < length xs / 3 → Some length_place ≡ triples_bad nodes xs
  unfolding triples_bad
  length_over e h = rw (eq-eqb (length xs % 3) 0 e, lt-leb (length xs / 3) max_triples h)

  pub length_fine : length xs % 3 ≡ 0 → length xs / 3 ≤ max_triples → first_bad (length xs / 3) 0 (triple_ok nodes xs) ≡ triples_bad nodes xs
  unfolding triples_bad
  length_fine e h = rw (eq-eqb (length xs % 3) 0 e, le-leb (length xs / 3) max_triples h)

-- no place is above that of the length
pub place_small : (nodes : ℕ) (xs : List ℕ) (p : ℕ) → triples_bad nodes xs ≡ Some p → p ≤ length_place
unfolding triples_bad
place_small nodes xs p e = go (eqb (length xs % 3) 0) (leb (length xs / 3) max_triples) refl e
  where
    one : (q : ℕ) → ◌≡◌ {A = Option ℕ} (Some q) (Some p) → q ≡ p
    one q e = cc

    go : (a b : Bool) → leb (length xs / 3) max_triples ≡ b → cond (a && b) (first_bad (length xs / 3) 0 (triple_ok nodes xs)) (Some length_place) ≡ Some p → p ≤ length_place
    go true true l f = omega (arith, leb-true (length xs / 3) max_triples l, bad_lt (length xs / 3) 0 (triple_ok nodes xs) p f)
    go true false l f = omega (arith, one length_place f)
    go false b l f = omega (arith, one length_place f)
