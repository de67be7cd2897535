-- The loop that chains the triples, from the last to the first. Assumes nothing.
use Rattle.std.specs.Prelude.{◌≡◌, List, ℕ, suc, ◌/◌, ◌≤◌, ◌<◌, get_or, length, set, replicate}
use Rattle.std.proofs.Common.{sym, ◌∙◌, subst, le_refl, arith, length-set, get_or-set_same, get_or-set_other}
use Rattle.std.proofs.lemmas.List.{length-replicate, get_or-replicate}
use Rattle.base.specs.Sizes.{max_locals}
use Rattle.base.specs.ListLaws.{by_eq}
use Rattle.ancestors.specs.Chains.{child_at, NextFrom, Chained, Firsts}

-- what holds of the value at each place of a list holds of it after a store
pub set_each : (P : ℕ → ℕ → Type 0) (l : List ℕ) (x v y : ℕ) → x < length l → P x v → ((y ≡ x → ⊥) → P y (get_or l y 0)) → P y (get_or (set l x v) y 0)
set_each P l x v y h here other =
    by_eq y x (λ e. subst (λ (z : ℕ). P z (get_or (set l x v) z 0)) (sym e) (subst (P x) (sym (get_or-set_same l x v 0 h)) here)) (λ g. subst (P y) (sym (get_or-set_other l x y v 0 g)) (other g))

module _ (xs : List ℕ) where
  -- behind the last triple
  pub chain_none : (next : List ℕ) {i : ℕ} → i ≡ length xs / 3 → length xs / 3 ≤ length next → Chained xs i next
  chain_none next e h = record { long = h; each = λ t l m. absurd (omega (arith, e, l, m)) }

  pub firsts_none : {i : ℕ} → i ≡ length xs / 3 → Firsts xs i (replicate max_locals (length xs / 3))
  firsts_none {i} e = record {
    long = length-replicate max_locals (length xs / 3);
    each = λ x h. subst (NextFrom xs x i) (sym (get_or-replicate max_locals x (length xs / 3) 0 h)) (record { from = omega (arith, e); fits = le_refl _; other = λ t l m. absurd (omega (arith, e, l, m)); own = λ l. absurd (omega (arith, l)) });
  }

  -- triple i, which leads to x
  module _ {i x v : ℕ} {first : List ℕ} (firsts : Firsts xs (suc i) first) (low : i < length xs / 3) (small : x < max_locals) (child : x ≡ child_at xs i) (after : v ≡ get_or first x 0) where
    chain_more : {next : List ℕ} → Chained xs (suc i) next → Chained xs i (set next i v)
    chain_more {next} w = record {
      long = subst (λ (n : ℕ). length xs / 3 ≤ n) (sym (length-set next i v)) w.long;
      each = λ t l m. set_each (λ (j : ℕ). NextFrom xs (child_at xs j) (suc j)) next i v t (omega (arith, low, w.long))
          (subst (λ (c : ℕ). NextFrom xs c (suc i) v) child (subst (NextFrom xs x (suc i)) (sym after) (firsts.each x small))) (λ g. w.each t (omega (arith, l, g)) m);
    }

    firsts_more : Firsts xs i (set first x i)
    firsts_more = record {
      long = length-set first x i ∙ firsts.long;
      each = λ y h. set_each (λ (z : ℕ). NextFrom xs z i) first x i y (omega (arith, small, firsts.long)) here (λ g. farther y g (firsts.each y h));
    }
      where
        here : NextFrom xs x i i
        here = record { from = le_refl i; fits = omega (arith, low); other = λ t l m. absurd (omega arith); own = λ l. sym child }

        farther : {j : ℕ} (y : ℕ) → (y ≡ x → ⊥) → NextFrom xs y (suc i) j → NextFrom xs y i j
        farther y g w = record { from = omega (arith, w.from); fits = w.fits; other = λ t l m e. by_eq t i (λ s. g (sym (child ∙ subst (λ (k : ℕ). child_at xs k ≡ y) s e))) (λ d. w.other t (omega (arith, l, d)) m e); own = w.own }

  -- one turn, from l to z
  pub chain_on : {i l z x v : ℕ} {first next : List ℕ} → suc i ≡ l → z ≡ i → Firsts xs l first → Chained xs l next → i < length xs / 3 → x < max_locals → x ≡ child_at xs i → v ≡ get_or first x 0
      → Firsts xs z (set first x i) × Chained xs z (set next i v) × (length (set next i v) ≡ length next)
  chain_on {i} {l} {z} {x} {v} {first} {next} before is firsts chained low small child after =
      let f = subst (λ (k : ℕ). Firsts xs k first) (sym before) firsts in
      let w = subst (λ (k : ℕ). Chained xs k next) (sym before) chained in
      (subst (λ (k : ℕ). Firsts xs k (set first x i)) (sym is) (firsts_more f low small child after), subst (λ (k : ℕ). Chained xs k (set next i v)) (sym is) (chain_more f low small child after w), length-set next i v)

  -- the first triple is reached
  pub chain_all : {l : ℕ} {first next : List ℕ} → l ≡ 0 → Firsts xs l first → Chained xs l next → Firsts xs 0 first × Chained xs 0 next
  chain_all {l} {first} {next} e firsts chained = (subst (λ (k : ℕ). Firsts xs k first) e firsts, subst (λ (k : ℕ). Chained xs k next) e chained)

-- the next triple that leads where triple i does
pub next_of : {xs next : List ℕ} (i : ℕ) → Chained xs 0 next → i < length xs / 3 → NextFrom xs (child_at xs i) (suc i) (get_or next i 0)
next_of i w h = w.each i (omega arith) h
