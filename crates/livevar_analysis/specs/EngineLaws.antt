-- What the engine's loops are to the definitions: a rule, the rules of a block, handing on, and one key. Assumes nothing.
use Rattle.std.specs.Prelude.{◌≡◌, ◌⊎◌, Bool, true, false, cond, ◌&&◌, List, [], ◌∷◌, ◌++◌, map, ℕ, zero, suc, ◌+◌, ◌-◌, ◌≤◌, ◌<◌, eqb, get_or, length, take, drop, refl}
use Rattle.std.proofs.Common.{sym, ap, ap₂, ◌∙◌, subst, inl, inr, add-one, arith, length-drop, take-suc, take_all, get_or-drop}
use Rattle.std.proofs.lemmas.List.{length-map}
use mathlib.Core.List.{Memᴰ}
use Rattle.base.specs.Sizes.{max_number}
use Rattle.base.specs.Lists.{over, tab}
use Rattle.base.specs.ListLaws.{over_append, get_d_in}
use Rattle.dataflow_domains.specs.Mask.{union, minus}
use Rattle.dataflow_domains.specs.Sets.{mask}
use Rattle.dataflow_analysis.specs.declared.Worklist.{Worklist}
use Rattle.dataflow_analysis.specs.Worklist.{State, news, receive}
use Rattle.dataflow_analysis.specs.Lattice.{masks}
use Rattle.dataflow_analysis.specs.QueueLaws.{list_length}
use Rattle.dataflow_analysis.specs.Receipt.{state_of, state, front, state_at, ListFits, news_at, SameSlices, Received}
use Rattle.dataflow_analysis.specs.FrontLaws.{over_front}
use Rattle.dataflow_analysis.specs.ReceiptLaws.{same_slices, same_then}
use Rattle.stackless_bytecode.specs.declared.Bytecode.{Bytecode}
use Rattle.stackless_bytecode.specs.Kinds.{at, nop}
use Rattle.stackless_bytecode.specs.Successors.{successors}
use Rattle.stackless_bytecode.specs.Sound.{Sound}
use Rattle.stackless_control_flow_graph.specs.Blocks.{upper_of, keyed, key_of}
use Rattle.stackless_control_flow_graph.specs.Backward.{nexts_of, leads_to}
use Rattle.stackless_control_flow_graph.specs.Graph.{Bounds}
use Rattle.stackless_control_flow_graph.specs.BlockLaws.{upper_lt, in_keyed}
use Rattle.livevar_analysis.specs.Live.{execute}
use Rattle.livevar_analysis.specs.Analysis.{execute_all, rest_of, out_of}
use Rattle.livevar_analysis.specs.Rules.{applied, rule_by}
use Rattle.livevar_analysis.specs.declared.rules.Rule.{Rule}
use Rattle.livevar_analysis.specs.declared.tables.Tables.{Tables}
use Rattle.livevar_analysis.specs.Engine.{RunTables, CanHand, HandedOn, HandedFront, CanOut, given, leads, CanHandKey}

-- ---- one rule

module _ (r : Rule) (m rest : ℕ) (left : rest ≡ minus m (mask r.kills)) where
  -- an Assign whose destination is not in the set
  pub rule_kept : r.assign ≡ true → eqb rest m ≡ true → m ≡ rule_by r m
  unfolding applied
  rule_kept a e = sym (rw (a, ← left, e))

  -- any other
  pub rule_done : (r.assign ≡ false) ⊎ (eqb rest m ≡ false) → union (mask r.gens) rest ≡ rule_by r m
  unfolding applied
  rule_done (inl a) = rw (a, ← left)
  rule_done (inr e) = rw (← left, e) (sym (either r.assign))
    where
      either : (b : Bool) → cond (b && false) m (union (mask r.gens) rest) ≡ union (mask r.gens) rest
      either true = refl
      either false = refl

-- ---- the rules of a block, from its end to its start

execute_end : (rs : List Bytecode) (r : Bytecode) (m : ℕ) → execute_all (rs ++ (r ∷ [])) m ≡ execute_all rs (execute r m)
unfolding execute_all
execute_end [] r m = refl
execute_end (q ∷ rs) r m = ap (execute q) (execute_end rs r m)

-- one instruction of the block is done
pub execute_more : (code : List Bytecode) (lower k m : ℕ) → lower < k → k ≤ length code
    → execute_all (take (k - lower) (drop lower code)) m ≡ execute_all (take (k - 1 - lower) (drop lower code)) (execute (at code (k - 1)) m)
execute_more code lower k m l h =
    let size : k - lower ≡ suc (k - 1 - lower) = omega arith in
    let last : lower + (k - 1 - lower) ≡ k - 1 = omega arith in
    ap (λ (n : ℕ). execute_all (take n (drop lower code)) m) size
    ∙ ap (λ (rs : List Bytecode). execute_all rs m) (take-suc (drop lower code) (k - 1 - lower) nop (omega (arith, length-drop lower code)))
    ∙ execute_end (take (k - 1 - lower) (drop lower code)) (get_or (drop lower code) (k - 1 - lower) nop) m
    ∙ ap (λ (r : Bytecode). execute_all (take (k - 1 - lower) (drop lower code)) (execute r m)) (get_or-drop lower code (k - 1 - lower) nop ∙ ap (at code) last)

-- none is left
pub execute_none : (code : List Bytecode) (lower k m : ℕ) → k ≤ lower → execute_all (take (k - lower) (drop lower code)) m ≡ m
unfolding execute_all
execute_none code lower k m h = let none : k - lower ≡ 0 = omega arith in ap (λ (n : ℕ). execute_all (take n (drop lower code)) m) none

-- ---- handing on: the loop's invariant, after i of the nodes ps have received m

pub record Handing (w₀ : Worklist) (ps : List ℕ) (m : ℕ) (w : Worklist) (i : ℕ) : Type 0 where
  pub state_is : state w ≡ over (receive m) (state w₀) (take i ps)
  pub same_head : w.cursor.head ≡ w₀.cursor.head
  pub list_fits : ListFits w
  pub within : i ≤ length ps
  pub same : SameSlices w₀ w

-- how many wait
pub waits : (w : Worklist) → ListFits w → length (state w).list ≡ w.cursor.len
unfolding state_of
waits w fits = list_length w.queue.now w.cursor fits

at_taken : (w : Worklist) → (state w).taken ≡ w.cursor.head
unfolding state_of
at_taken w = refl

over_more : {A B : Type 0} (f : B → A → B) (b : B) (xs : List A) (i : ℕ) (d : A) → i < length xs → over f b (take (i + 1) xs) ≡ f (over f b (take i xs)) (get_or xs i d)
over_more f b xs i d h =
    ap (λ (n : ℕ). over f b (take n xs)) (add-one i) ∙ ap (over f b) (take-suc xs i d h) ∙ over_append f b (take i xs) (get_or xs i d ∷ [])

module _ (w₀ : Worklist) (ps : List ℕ) (m : ℕ) (can : CanHand w₀ ps m) where
  pub hand_none : Handing w₀ ps m w₀ 0
  hand_none = record { state_is = refl; same_head = refl; list_fits = can.list_fits; within = omega arith; same = same_slices w₀ }

  module _ (w : Worklist) (i : ℕ) (h : Handing w₀ ps m w i) (more : i < length ps) (p : ℕ) (e : p ≡ get_or ps i 0) where
    -- what `receive` requires
    pub hand_set : p < length w.sets.now
    hand_set = omega (arith, can.below_sets i more, h.same.sets_long)

    pub hand_inside : p < length w.met.now
    hand_inside = omega (arith, can.below i more, h.same.met_long)

    pub hand_room : news_at w p m ≡ true → w.cursor.head + w.cursor.len < length w.queue.now
    hand_room t =
        let room : (state w).taken + length (state w).list < length w₀.queue.now =
        subst (λ (s : State masks). news m s (get_or ps i 0) ≡ true → s.taken + length s.list < length w₀.queue.now) (sym h.state_is) (can.room i more)
        (ap (news m (state w)) (sym e) ∙ t) in
        omega (arith, waits w h.list_fits, room, h.same.queue_long, at_taken w)

    -- one node more has received
    pub hand_more : (w₁ : Worklist) → Received w p m w₁ → Handing w₀ ps m w₁ (i + 1)
    hand_more w₁ got = record {
      state_is = got.state_is ∙ ap₂ (receive m) h.state_is e ∙ sym (over_more (receive m) (state w₀) ps i 0 more);
      same_head = got.same_head ∙ h.same_head;
      list_fits = got.fits h.list_fits;
      within = omega arith;
      same = same_then h.same got.same;
    }

  -- all have
  pub hand_all : (w : Worklist) (i : ℕ) → Handing w₀ ps m w i → length ps ≤ i → HandedOn w₀ ps m w
  hand_all w i h end = record { state_is = h.state_is ∙ ap (over (receive m) (state w₀)) (take_all i ps end); same_head = h.same_head; list_fits = h.list_fits; same = h.same }

-- nodes below n have received it in the state of the first n nodes too
pub handed_at : (w : Worklist) (ps : List ℕ) (m : ℕ) (w₁ : Worklist) (n : ℕ) → ((p : ℕ) → Memᴰ p ps → p < n) → HandedOn w ps m w₁ → state_at n w₁ ≡ over (receive m) (state_at n w) ps
handed_at w ps m w₁ n inside h = ap (front n) h.state_is ∙ sym (over_front n m ps inside (state w))

pub handed_front : (w : Worklist) (ps : List ℕ) (m : ℕ) (w₁ : Worklist) (n : ℕ) → ((p : ℕ) → Memᴰ p ps → p < n) → HandedOn w ps m w₁ → HandedFront n w ps m w₁
handed_front w ps m w₁ n inside h = record { state_is = handed_at w ps m w₁ n inside h; same_head = h.same_head; list_fits = h.list_fits }

-- ---- what a key hands on

pub out_dummy : (code : List Bytecode) (ks : List ℕ) (k m : ℕ) → k < 2 → out_of code ks k m ≡ m
unfolding out_of
out_dummy code ks zero m h = refl
out_dummy code ks (suc zero) m h = refl
out_dummy code ks (suc (suc k)) m h = absurd (omega arith)

module _ (code : List Bytecode) (sound : Sound code) (lows ups : List ℕ) (bounds : Bounds code lows ups) (k : ℕ) (block : 2 ≤ k) (inside : k < 2 + length (keyed code)) where
  key_inside : k - 2 < length (keyed code)
  key_inside = omega arith

  -- a block ends within the code
  pub upper_inside : get_or ups (k - 2) 0 < length code
  upper_inside =
      let o = get_or (keyed code) (k - 2) 0 in
      subst (λ (x : ℕ). x < length code) (sym (bounds.up (k - 2) key_inside)) (upper_lt code o (in_keyed code sound o (get_d_in (keyed code) (k - 2) 0 key_inside)).inside)

  -- r is what the rules from `lower` to `upper` make of m
  pub out_block : (lower upper m own r : ℕ) → lower ≡ get_or lows (k - 2) 0 → upper ≡ get_or ups (k - 2) 0 → m ≡ own
      → (upper < length code → r ≡ execute_all (take (suc upper - lower) (drop lower code)) m) → r ≡ out_of code (keyed code) k own
  out_block lower upper m own r l u e made =
      made (subst (λ (x : ℕ). x < length code) (sym u) upper_inside)
      ∙ ap₂ (λ (x y : ℕ). execute_all (take (suc y - x) (drop x code)) m) (l ∙ bounds.low (k - 2) key_inside) (u ∙ bounds.up (k - 2) key_inside)
      ∙ sym (ap (λ (x : ℕ). out_of code (keyed code) x m) key_is ∙ is) ∙ ap (out_of code (keyed code) k) e
    where
      key_is : k ≡ suc (suc (k - 2))
      key_is = omega arith

      is : out_of code (keyed code) (suc (suc (k - 2))) m ≡ execute_all (take (suc (upper_of code (get_or (keyed code) (k - 2) 0)) - get_or (keyed code) (k - 2) 0) (drop (get_or (keyed code) (k - 2) 0) code)) m
      is = unfold out_of rest_of in refl

-- ---- one key hands on

-- the same nodes, and the same set
pub can_hand_as : (w : Worklist) {ps ps' : List ℕ} {m m' : ℕ} → ps ≡ ps' → m ≡ m' → CanHand w ps m → CanHand w ps' m'
can_hand_as w {ps} {ps'} {m} {m'} e f h = subst (λ (x : ℕ). CanHand w ps' x) f (subst (λ (x : List ℕ). CanHand w x m) e h)

pub handed_as : (w : Worklist) {ps ps' : List ℕ} {m m' : ℕ} (w₁ : Worklist) → ps ≡ ps' → m ≡ m' → HandedOn w ps m w₁ → HandedOn w ps' m' w₁
handed_as w {ps} {ps'} {m} {m'} w₁ e f h = subst (λ (x : ℕ). HandedOn w ps' x w₁) f (subst (λ (x : List ℕ). HandedOn w x m w₁) e h)

nexts_length : (code : List Bytecode) (ks : List ℕ) → length (nexts_of code ks) ≡ 2 + length ks
unfolding nexts_of
nexts_length code ks = omega (arith, length-map ks (λ o. map (key_of ks) (successors code (upper_of code o))))

-- key 1 leads to all blocks
pub leads_all : (code : List Bytecode) (n k : ℕ) → n ≡ 2 + length (keyed code) → k ≡ 1 → tab (n - 2) 2 (λ b. b) ≡ leads code k
leads_all code n k e one =
    let size : n - 2 ≡ length (nexts_of code (keyed code)) - 2 = omega (arith, nexts_length code (keyed code)) in
    ap (λ (x : ℕ). tab x 2 (λ b. b)) size ∙ sym (ap (leads_to (nexts_of code (keyed code))) one ∙ (unfold leads_to in refl))

-- the tables are those of some sound code, and those that key k leads to can receive what it hands on
pub record CanStep (t : Tables) (w : Worklist) (k : ℕ) : Type 0 where
  pub code : List Bytecode
  pub sound : Sound code
  pub tables : RunTables code t
  pub nodes : length w.met.now ≡ 2 + length (keyed code)
  pub sets_fit : length w.met.now ≤ length w.sets.now
  pub few : length w.met.now ≤ max_number + 1
  pub inside : k < length w.met.now
  pub hands : CanHand w (leads code k) (given code w.sets.now k)

module _ (t : Tables) (w : Worklist) (k : ℕ) (can : CanStep t w k) where
  pub step_out : CanOut t w.sets.now k
  step_out =
      let b = can.tables.bounds in
      record {
        own = omega (arith, can.inside, can.sets_fit);
        low = omega (arith, can.inside, can.nodes, b.lows_long);
        up = omega (arith, can.inside, can.nodes, b.ups_long);
        rule_room = λ block. omega (arith, can.tables.room, upper_inside can.code can.sound t.lower_of_key.now t.upper_of_key.now b k block (omega (arith, can.inside, can.nodes)));
      }

  -- where m is what it hands on
  pub step_hands : (m : ℕ) → m ≡ given can.code w.sets.now k → CanHandKey t w k m
  step_hands m e = record {
    code = can.code;
    leads_are = can.tables.leads_are;
    nodes = can.nodes;
    few = can.few;
    inside = can.inside;
    hands = subst (CanHand w (leads can.code k)) (sym e) can.hands;
  }
