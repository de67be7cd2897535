-- A search over the instructions of a sheet in shape, block by block: any test of an instruction. Assumes nothing.
use Rattle.std.specs.Prelude.{Bool, Option, true, false, ◌≡◌, ◌⊎◌, List, ℕ, ◌+◌, ◌-◌, ◌*◌, ◌≤◌, ◌<◌, min, take, drop, None, Some}
use Rattle.std.proofs.Common.{sym, ap, ap₂, ◌∙◌, inl, inr, arith, ltb, ltb-true}
use Rattle.std.proofs.lemmas.Bool.{ltb-false}
use Rattle.base.specs.ListLaws.{by_test}
use Rattle.base.specs.Sizes.{records_from, record_bytes, block_records}
use Rattle.base.specs.Lists.{first_bad}
use Rattle.base.specs.SearchLaws.{all_none, first_is, bad_pass, bad_here, bad_same}
use Rattle.stackless_bytecode.specs.declared.Bytecode.{Bytecode}
use Rattle.stackless_bytecode.specs.Kinds.{at}
use Rattle.sheet.specs.Layout.{decode, instruction_at, code_of}
use Rattle.sheet.specs.Shaped.{Shaped, code_at}
use Rattle.sheet.specs.InBlock.{record_in, handed, record_in_lem}

-- the record of place k, which the code hands on from its start a
pub record_is : (p : List ℕ) (from k a : ℕ) → a ≡ records_from + record_bytes * (k - from) → take (a + record_bytes - a) (drop a p) ≡ record_in p from k
record_is p from k a e =
    let size : a + record_bytes - a ≡ record_bytes = omega arith in
    ap₂ (λ (m x : ℕ). take m (drop x p)) size e

-- what a search for the first of the places from `from` on and below `to` at which the test fails found
abbrev pub Finds : ℕ → ℕ → (ℕ → Bool) → Option ℕ → Type 0
Finds from to ok None = (j : ℕ) → from ≤ j → j < to → ok j ≡ true
Finds from to ok (Some k) = (from ≤ k) × (k < to) × ((j : ℕ) → from ≤ j → j < k → ok j ≡ true) × (ok k ≡ false)

pub finds_first : (n : ℕ) (ok : ℕ → Bool) (r : Option ℕ) → Finds 0 n ok r → r ≡ first_bad n 0 ok
finds_first n ok None f = sym (all_none n 0 ok (λ j l h. f j l (omega arith)))
finds_first n ok (Some k) f = sym (first_is n 0 k ok f.0 (omega (arith, f.1)) f.2 f.3)

-- the search goes on from place `from`: the test holds before it, and `seen` is the test at the places from there on and below `to`
module _ (from to : ℕ) (ok seen : ℕ → Bool) (same : (k : ℕ) → from ≤ k → k < to → seen k ≡ ok k) (before : (j : ℕ) → j < from → ok j ≡ true) where
  up_to : (k : ℕ) → k ≤ to → ((j : ℕ) → from ≤ j → j < k → seen j ≡ true) → (j : ℕ) → j < k → ok j ≡ true
  up_to k l f j h =
      by_test (λ _. ok j ≡ true) (ltb j from) (λ t. before j (ltb-true _ _ t))
      (λ t. let low : from ≤ j = ltb-false _ _ t in sym (same j low (omega arith)) ∙ f j low h)

  pub found_on : (n k : ℕ) → to ≤ n → Finds from to seen (Some k) → Some k ≡ first_bad n 0 ok
  found_on n k l f = finds_first n ok (Some k) (omega arith, omega (arith, f.1), (λ j _ h. up_to k (omega (arith, f.1)) f.2 j h), sym (same k f.0 f.1) ∙ f.3)

  pub none_on : Finds from to seen None → (j : ℕ) → j < to → ok j ≡ true
  none_on f = up_to to (omega arith) f

-- a block's records are those of the code
pub block_record : {s : List ℕ} {n : ℕ} → Shaped s n → (b k : ℕ) → block_records * b ≤ k → k < block_records * b + block_records → k < n → decode (record_in (handed s b) (block_records * b) k) ≡ at (code_of s) k
unfolding instruction_at
block_record {s} shaped b k l h inside = ap decode (record_in_lem s b k l h) ∙ sym (code_at shaped k inside)

-- ---- the search by `first_bad`, block by block

-- m is how many of those that are left stand in one block
abbrev pub OneBlock : ℕ → ℕ → Type 0
OneBlock left m = ((m ≡ left) × (left ≤ block_records)) ⊎ ((m ≡ block_records) × (block_records ≤ left))

-- as many as a block has, or all that are left if they are fewer, stand in one block
pub one_block : (left : ℕ) → OneBlock left (min left block_records)
one_block left =
    by_test (λ _. OneBlock left (min left block_records)) (ltb left block_records) (λ t. let l : left < block_records = ltb-true _ _ t in inl (omega arith, omega arith))
    (λ t. let l : block_records ≤ left = ltb-false _ _ t in inr (omega arith, omega arith))

pub few_records : {m left : ℕ} → OneBlock left m → m ≤ block_records
few_records (inl (e, l)) = omega arith
few_records (inr (e, l)) = omega arith

pub few_left : {m left : ℕ} → OneBlock left m → m ≤ left
few_left (inl (e, l)) = omega arith
few_left (inr (e, l)) = omega arith

module _ {s : List ℕ} {n : ℕ} (shaped : Shaped s n) (b m from : ℕ) (begin : from ≡ block_records * b) (few : OneBlock (n - from) m) (inside : from < n) (ok : Bytecode → Bool) where
  block_is : first_bad m from (λ k. ok (decode (record_in (handed s b) from k))) ≡ first_bad m from (λ k. ok (at (code_of s) k))
  block_is = bad_same m from _ _ (λ k l h. ap (λ (x : ℕ). ok (decode (record_in (handed s b) x k))) begin ∙ ap ok (block_record shaped b k (omega arith) (omega (arith, few_records few)) (omega (arith, few_left few))))

  -- nothing is found in it: the search goes on behind it
  pub pass_block : first_bad m from (λ k. ok (decode (record_in (handed s b) from k))) ≡ None
      → first_bad (n - from) from (λ k. ok (at (code_of s) k)) ≡ first_bad (n - (from + block_records)) (from + block_records) (λ k. ok (at (code_of s) k))
  unfolding first_bad
  pass_block f = go few
    where
      clear : first_bad m from (λ k. ok (at (code_of s) k)) ≡ None
      clear = sym block_is ∙ f

      go : OneBlock (n - from) m → first_bad (n - from) from (λ k. ok (at (code_of s) k)) ≡ first_bad (n - (from + block_records)) (from + block_records) (λ k. ok (at (code_of s) k))
      go (inl (e, l)) =
          let rest : 0 ≡ n - (from + block_records) = omega arith in
          ap (λ (x : ℕ). first_bad x from (λ k. ok (at (code_of s) k))) (sym e) ∙ clear ∙ ap (λ (x : ℕ). first_bad x (from + block_records) (λ k. ok (at (code_of s) k))) rest
      go (inr (e, l)) =
          let size : n - from ≡ m + (n - (from + block_records)) = omega arith in
          let next : from + m ≡ from + block_records = omega arith in
          ap (λ (x : ℕ). first_bad x from (λ k. ok (at (code_of s) k))) size ∙ bad_pass m (n - (from + block_records)) from _ clear
          ∙ ap (λ (x : ℕ). first_bad (n - (from + block_records)) x (λ k. ok (at (code_of s) k))) next

  -- place p is found in it: the search ends there
  pub stop_block : (p : ℕ) → first_bad m from (λ k. ok (decode (record_in (handed s b) from k))) ≡ Some p → first_bad (n - from) from (λ k. ok (at (code_of s) k)) ≡ Some p
  stop_block p f =
      let size : n - from ≡ m + (n - from - m) = omega (arith, few_left few) in
      ap (λ (x : ℕ). first_bad x from (λ k. ok (at (code_of s) k))) size ∙ bad_here m (n - from - m) from p _ (sym block_is ∙ f)
