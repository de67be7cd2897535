-- The parents of triples, and what visits wrote into lent bytes. Assumes nothing.
use Rattle.std.specs.Prelude.{◌≡◌, ℕ, ◌+◌, ◌-◌, ◌/◌, ◌≤◌, ◌<◌, List, ◌++◌, length, take, drop, set}
use Rattle.std.proofs.Common.{sym, ap, ◌∙◌, subst, arith, length-take-le, append_assoc, take-append-drop, drop-drop, drop-set-lt}
use mathlib.Core.List.{Memᴰ}
use Rattle.std.proofs.lemmas.List.{drop-append-le}
use Rattle.base.specs.TabLaws.{in_tab_by}
use Rattle.borrow_analysis.specs.declared.triples.Triple.{Triple}
use Rattle.borrow_analysis.specs.Graph.{triple_at, triples_of}
use Rattle.borrow_analysis.specs.Borrows.{VisitedNodes}
use Rattle.borrow_analysis.specs.GraphParts.{NodesBelow}
use Rattle.borrow_analysis.specs.Visiting.{VisitsWritten}

-- ---- the parents of triples are below what bounds their numbers

pub parents_below : {c : ℕ} {xs : List ℕ} → NodesBelow c xs → (t : Triple) → Memᴰ t (triples_of xs) → t.parent < c
parents_below {c} {xs} w t m = let r = in_tab_by (length xs / 3) 0 (triple_at xs) t m in subst (λ (u : Triple). u.parent < c) r.2 (w.parents r.0 (omega (arith, r.1)))

-- ---- what was written

-- what is the same from one place on is the same from a later one on
pub drop_further : {i j : ℕ} (a b : List ℕ) → i ≤ j → drop i a ≡ drop i b → drop j a ≡ drop j b
drop_further {i} {j} a b h e =
    let split : j ≡ i + (j - i) = omega arith in
    ap (λ (k : ℕ). drop k a) split ∙ sym (drop-drop (j - i) i a) ∙ ap (drop (j - i)) e ∙ drop-drop (j - i) i b ∙ ap (λ (k : ℕ). drop k b) (sym split)

-- what a store at one of the listed places overwrote does not matter
pub written_before : {m k : ℕ} {out : List ℕ} (st : VisitedNodes) (before : List ℕ) (j n : ℕ) → VisitsWritten st m k (set before j n) out → j < k → VisitsWritten st m k before out
written_before st before j n v h =
    record { set = v.set; count = v.count; wrote = v.wrote ∙ ap (λ (l : List ℕ). st.listed ++ l) (drop-set-lt (length st.listed) before j n (omega (arith, v.count))) }

-- what stands behind the part that is written does not matter
pub written_part : {m k : ℕ} {part : List ℕ} (st : VisitedNodes) (old : List ℕ) (c : ℕ) → c ≤ length old → VisitsWritten st m k (take c old) part → k ≤ c → VisitsWritten st m k old (part ++ drop c old)
written_part st old c h v l =
    let size = length-take-le c old h in
    record {
      set = v.set;
      count = v.count;
      wrote = ap (λ (x : List ℕ). x ++ drop c old) v.wrote ∙ append_assoc st.listed _ _
          ∙ ap (λ (x : List ℕ). st.listed ++ x) (sym (drop-append-le (length st.listed) (take c old) (drop c old) (omega (arith, size, v.count))) ∙ ap (drop (length st.listed)) (take-append-drop c old));
    }
