-- A receipt over sets and flags in slices is the definition's receipt. Assumes nothing.
use Rattle.std.specs.Prelude.{◌≡◌, refl, Some, None, Bool, true, false, cond, not, ◌||◌, List, map, ℕ, suc, ◌+◌, ◌<◌, eqb, get_or, set, length}
use Rattle.std.proofs.Common.{sym, ap, ap₂, ◌∙◌, add-one}
use Rattle.std.proofs.lemmas.List.{map-set}
use Rattle.std.proofs.Math.ListN.{get_or-map}
use Rattle.dataflow_domains.specs.Mask.{union}
use Rattle.dataflow_domains.specs.Sets.{mask}
use Rattle.dataflow_domains.specs.declared.LiveVarState.{LiveVarState}
use Rattle.dataflow_analysis.specs.declared.Cursor.{Cursor}
use Rattle.dataflow_analysis.specs.declared.Worklist.{Worklist}
use Rattle.dataflow_analysis.specs.Worklist.{State, receive, news, joined, popped}
use Rattle.dataflow_analysis.specs.FrontLaws.{counted, news_front, receive_front, receive_counted}
use Rattle.dataflow_analysis.specs.Lattice.{masks}
use Rattle.dataflow_analysis.specs.Queue.{waiting, taken_of, Queued}
use Rattle.dataflow_analysis.specs.QueueLaws.{took_key, took_none}
use Rattle.dataflow_analysis.specs.Receipt.{flag, state_of, state, front, state_at, ListFits, news_at, SameSlices, Received, Taken, Ended}

pub same_slices : (w : Worklist) → SameSlices w w
same_slices w = record { sets = refl; met = refl; queue = refl; sets_long = refl; met_long = refl; queue_long = refl }

pub same_then : {a b c : Worklist} → SameSlices a b → SameSlices b c → SameSlices a c
same_then p q = record {
  sets = q.sets ∙ p.sets;
  met = q.met ∙ p.met;
  queue = q.queue ∙ p.queue;
  sets_long = q.sets_long ∙ p.sets_long;
  met_long = q.met_long ∙ p.met_long;
  queue_long = q.queue_long ∙ p.queue_long;
}

-- ---- the first nodes alone

-- the slices tell the news, whatever the number of nodes
pub news_at_lem : (w : Worklist) (p m n : ℕ) → p < n → news m (state_at n w) p ≡ news_at w p m
news_at_lem w p m n h = news_front n m (state w) p h

-- and a receipt is one, whatever the number of nodes and the count of removals
pub received_at : (w : Worklist) (p m : ℕ) (w₁ : Worklist) → Received w p m w₁ → (n t : ℕ) → p < n
    → front n (state_of w₁.sets.now w₁.met.now w₁.queue.now w₁.cursor t) ≡ receive m (front n (state_of w.sets.now w.met.now w.queue.now w.cursor t)) p
unfolding state_of
received_at w p m w₁ got n t h =
    ap (λ (s : State masks). front n (counted t s)) got.state_is ∙ ap (front n) (sym (receive_counted m (state w) t p))
    ∙ sym (receive_front n m (counted t (state w)) p h)

-- ---- when there is news

module _ (w : Worklist) (p m : ℕ) where
  -- p was not met
  pub news_first : get_or w.met.now p false ≡ false → news_at w p m ≡ true
  unfolding news state_of
  news_first e =
      ap (λ (x : ℕ). eqb x 0 || not (eqb (union (get_or (map mask w.sets.now) p 0) m) (get_or (map mask w.sets.now) p 0))) (get_or-map flag w.met.now p false ∙ ap flag e)

  -- without news nothing changes
  pub received_none : news_at w p m ≡ false → Received w p m w
  unfolding receive
  received_none e = record { state_is = sym (ap (λ (b : Bool). cond b (joined m (state w) p) (state w)) e); same_head = refl; fits = λ h. h; same = same_slices w }

module _ (w : Worklist) (p m old : ℕ) (is : old ≡ get_or (map mask w.sets.now) p 0) where
  -- p was met, and old is its set
  pub news_again : get_or w.met.now p false ≡ true → news_at w p m ≡ not (eqb (union old m) old)
  unfolding news state_of
  news_again e =
      ap (λ (x : ℕ). eqb x 0 || not (eqb (union (get_or (map mask w.sets.now) p 0) m) (get_or (map mask w.sets.now) p 0))) (get_or-map flag w.met.now p false ∙ ap flag e)
      ∙ ap (λ (x : ℕ). not (eqb (union x m) x)) (sym is)

  -- with news p joins the list: its old set with m is stored, it is met, and its key is put
  pub received_news : (s : LiveVarState) (w₁ : Worklist) → news_at w p m ≡ true → mask s ≡ union old m → Queued w.queue.now w.cursor p w₁.queue.now w₁.cursor → w₁.sets.now ≡ set w.sets.now p s → w₁.met.now ≡ set w.met.now p true
      → SameSlices w w₁ → Received w p m w₁
  received_news s w₁ e grown put sets met same = record { state_is = here; same_head = put.same_head; fits = λ h. put.within; same = same }
    where
      here : state w₁ ≡ receive m (state w) p
      here = unfold state_of receive joined in rw (sets, met, map-set mask w.sets.now p s, map-set flag w.met.now p true, put.queued, put.same_head, grown, is, e)

-- ---- the first to wait

-- the state past a key is the definition's
pub took_popped : (sets : List LiveVarState) (met : List Bool) (q : List ℕ) (c n : Cursor) (t : ℕ) → state_of sets met q n (suc t) ≡ popped (state_of sets met q c t) (waiting q n)
unfolding state_of popped
took_popped sets met q c n t = refl

module _ (w w₁ : Worklist) (sets : w₁.sets ≡ w.sets) (met : w₁.met ≡ w.met) (queue : w₁.queue ≡ w.queue) where
  same : SameSlices w w₁
  same = record {
    sets = ap (λ s. s.ghost_name) sets;
    met = ap (λ s. s.ghost_name) met;
    queue = ap (λ s. s.ghost_name) queue;
    sets_long = ap (λ s. length s.now) sets;
    met_long = ap (λ s. length s.now) met;
    queue_long = ap (λ s. length s.now) queue;
  }

  alike : (c : Cursor) (taken : ℕ) → state_of w₁.sets.now w₁.met.now w₁.queue.now c taken ≡ state_of w.sets.now w.met.now w.queue.now c taken
  alike c taken = ap₂ (λ (s : List LiveVarState) (t : List Bool). state_of s t w₁.queue.now c taken) (ap (λ s. s.now) sets) (ap (λ s. s.now) met) ∙ ap (λ (q : List ℕ). state_of w.sets.now w.met.now q c taken) (ap (λ s. s.now) queue)

  pub taken_first : ListFits w → (k : ℕ) → Some (k, w₁.cursor) ≡ taken_of (waiting w.queue.now w.cursor) w.cursor → Taken w k w₁
  unfolding state_of popped
  taken_first fits k e =
      let took = took_key w.queue.now w.cursor k w₁.cursor fits e in
      record {
        first = rw queue took.queued;
        state_is = alike w₁.cursor w₁.cursor.head ∙ rw (queue, took.next_head, add-one);
        next_head = took.next_head;
        same_end = took.same_end;
        same = same;
      }

  pub ended : w₁.cursor ≡ w.cursor → None ≡ taken_of (waiting w.queue.now w.cursor) w.cursor → Ended w w₁
  unfolding state_of
  ended c e = record { none = took_none w.queue.now w.cursor e; state_is = alike w₁.cursor w₁.cursor.head ∙ ap (λ (x : Cursor). state_of w.sets.now w.met.now w.queue.now x x.head) c; same_head = ap (λ (x : Cursor). x.head) c; same_end = ap (λ (x : Cursor). x.head + x.len) c; same = same }
