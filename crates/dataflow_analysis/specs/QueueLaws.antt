-- What the cursor's methods and the main loop's turns are to the definition's list and state. Assumes nothing.
use Rattle.std.specs.Prelude.{◌≡◌, Some, None, get_or, set, length, take, drop, refl, List, [], ◌∷◌, ℕ, zero, suc, ◌+◌, ◌-◌, ◌≤◌, ◌<◌}
use Rattle.std.proofs.Common.{ap, sym, ap₂, ◌∙◌, zero-add, add-one, length-set, length-drop, drop-cons, take-suc-set, length-take-le, arith}
use Rattle.std.proofs.lemmas.List.{drop-set-add}
use Rattle.dataflow_analysis.specs.declared.Cursor.{Cursor}
use Rattle.dataflow_analysis.specs.Lattice.{Lattice}
use Rattle.dataflow_analysis.specs.Worklist.{State, step, run}
use Rattle.dataflow_analysis.specs.Queue.{waiting, past_first, taken_of, Queued}

-- ---- the list

pub list_none : (q : List ℕ) (c : Cursor) → c.len ≡ 0 → waiting q c ≡ []
unfolding waiting
list_none q c e = ap (λ (n : ℕ). take n (drop c.head q)) e

pub list_length : (q : List ℕ) (c : Cursor) → c.head + c.len ≤ length q → length (waiting q c) ≡ c.len
unfolding waiting
list_length q c h = length-take-le c.len (drop c.head q) (omega (arith, length-drop c.head q))

-- after `put`
pub put_list : (q : List ℕ) (c r : Cursor) (k : ℕ) → c.head + c.len < length q → r.head ≡ c.head → r.len ≡ c.len + 1
    → Queued q c k (set q (c.head + c.len) k) r
unfolding waiting
put_list q c r k fits eh el = record {
  queued = ap₂ (λ (n h : ℕ). take n (drop h (set q (c.head + c.len) k))) (el ∙ add-one c.len) eh ∙ ap (take (suc c.len)) (drop-set-add c.head q c.len k) ∙ take-suc-set (drop c.head q) c.len k (omega (arith, length-drop c.head q));
  same_head = eh;
  longer = el;
  within = omega (arith, length-set q (c.head + c.len) k);
}

-- where a key waits
pub take_first : (q : List ℕ) (c : Cursor) → 0 < c.len → c.head + c.len ≤ length q → waiting q c ≡ get_or q c.head 0 ∷ waiting q (past_first c)
unfolding waiting
take_first q c some fits =
    let size : c.len ≡ suc (c.len - 1) = omega arith in
    ap₂ (λ (n : ℕ) (l : List ℕ). take n l) size (drop-cons q c.head 0 (omega arith))
    ∙ ap (λ (h : ℕ). get_or q c.head 0 ∷ take (c.len - 1) (drop h q)) (sym (add-one c.head))

-- ---- what the result of `take` says

-- k waited first, and the others still wait
pub record Took (q : List ℕ) (c : Cursor) (k : ℕ) (n : Cursor) : Type 0 where
  pub queued : waiting q c ≡ k ∷ waiting q n
  pub next_head : n.head ≡ c.head + 1
  pub same_end : n.head + n.len ≡ c.head + c.len

pub took_key : (q : List ℕ) (c : Cursor) (k : ℕ) (n : Cursor) → c.head + c.len ≤ length q → Some (k, n) ≡ taken_of (waiting q c) c → Took q c k n
took_key q c k n h e = go (waiting q c) refl e
  where
    go : (l : List ℕ) → waiting q c ≡ l → Some (k, n) ≡ taken_of l c → Took q c k n
    go [] f e = let z : ◌≡◌ {A = ℕ} 0 1 = cc in absurd (omega arith)
    go (x ∷ xs) f e =
        let some : 0 < c.len = omega (arith, list_length q c h, ap length f) in
        let front : waiting q c ≡ get_or q c.head 0 ∷ waiting q (past_first c) = take_first q c some h in
        let pair : ◌≡◌ {A = ℕ × Cursor} (k, n) (x, past_first c) = cc in
        let is : n ≡ past_first c = ap (λ (p : ℕ × Cursor). p.1) pair in
        let key : k ≡ get_or q c.head 0 = ap (λ (p : ℕ × Cursor). p.0) pair ∙ cc in
        record { queued = rw (is, key) front; next_head = rw is refl; same_end = rw is (omega arith) }

-- none waited
pub took_none : (q : List ℕ) (c : Cursor) → None ≡ taken_of (waiting q c) c → waiting q c ≡ []
took_none q c e = go (waiting q c) e
  where
    go : (l : List ℕ) → None ≡ taken_of l c → l ≡ []
    go [] e = refl
    go (x ∷ xs) e = let z : ◌≡◌ {A = ℕ} 0 1 = cc in absurd (omega arith)

-- ---- the main loop: its invariant is `run leads out bound start ≡ run leads out fuel st`

module _ {L : Lattice} (leads : ℕ → List ℕ) (out : ℕ → L.Value → L.Value) where
  -- a turn
  pub run_more : (fuel : ℕ) (st : State L) (k : ℕ) (ks : List ℕ) → st.list ≡ k ∷ ks → run leads out (suc fuel) st ≡ run leads out fuel (step leads out st k ks)
  unfolding run
  run_more fuel st k ks e =
      ap (λ (l : List ℕ). elim l as (λ _. State L) [ [] ↦ st | j ∷ js ↦ run leads out fuel (step leads out st j js) ]) e

  -- its end
  pub run_done : (fuel : ℕ) (st : State L) → st.list ≡ [] → run leads out fuel st ≡ st
  unfolding run
  run_done zero st e = refl
  run_done (suc fuel) st e =
      ap (λ (l : List ℕ). elim l as (λ _. State L) [ [] ↦ st | j ∷ js ↦ run leads out fuel (step leads out st j js) ]) e

  -- more fuel changes nothing
  pub run_longer : (fuel more : ℕ) (st : State L) → (run leads out fuel st).list ≡ [] → run leads out (fuel + more) st ≡ run leads out fuel st
  unfolding run
  run_longer zero more st e = ap (λ (f : ℕ). run leads out f st) (zero-add more) ∙ run_done more st e
  run_longer (suc fuel) more st e = go st.list refl (λ k ks. run_longer fuel more (step leads out st k ks))
    where
      next : fuel + more + 1 ≡ suc fuel + more
      next = omega arith

      go : (l : List ℕ) → st.list ≡ l
          → ((k : ℕ) (ks : List ℕ) → (run leads out fuel (step leads out st k ks)).list ≡ [] → run leads out (fuel + more) (step leads out st k ks) ≡ run leads out fuel (step leads out st k ks))
          → run leads out (suc fuel + more) st ≡ run leads out (suc fuel) st
      go [] q rest = run_done (suc fuel + more) st q ∙ sym (run_done (suc fuel) st q)
      go (k ∷ ks) q rest =
          ap (λ (f : ℕ). run leads out f st) (sym next ∙ add-one (fuel + more)) ∙ run_more (fuel + more) st k ks q
          ∙ rest k ks (ap (λ (s : State L). s.list) (sym (run_more fuel st k ks q)) ∙ e) ∙ sym (run_more fuel st k ks q)
