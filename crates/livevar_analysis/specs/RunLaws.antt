-- The main loop of the engine is the definition's run: its invariant, a turn, and its end. Assumes nothing.
use Rattle.std.specs.Prelude.{◌≡◌, refl, Bool, true, false, cond, map, ℕ, zero, suc, ◌+◌, ◌-◌, ◌*◌, ◌^◌, ◌≤◌, ◌<◌, get_or, set, take, replicate, List, [], ◌∷◌, ◌++◌, length}
use Rattle.std.proofs.Common.{sym, ◌∙◌, mul-le-mul, length-set, length-take, length-take-le, get_or-take, ext_get_or, ap, ap₂, subst, arith}
use mathlib.Core.List.{Memᴰ}
use Rattle.std.specs.Int.Count.{ones, ones-ones}
use Rattle.std.proofs.Math.ListN.{get_or-map, get_or-eq_default}
use Rattle.std.proofs.lemmas.List.{length-replicate, length-map, map-set, map-append, take-map, take-append-le}
use Rattle.std.proofs.Math.Pow.{ones_lt}
use Rattle.base.specs.Sizes.{max_locals, max_instructions, taken_bound, max_taken}
use Rattle.base.specs.Lists.{over, keep}
use Rattle.base.specs.JoinLaws.{by_lt}
use Rattle.base.specs.ListLaws.{by_test, in_take, get_d_in, copies_at}
use Rattle.dataflow_domains.specs.MaskLaws.{sub_full, sub_lt}
use Rattle.dataflow_domains.specs.Sets.{mask}
use Rattle.dataflow_domains.specs.declared.LiveVarState.{LiveVarState}
use Rattle.dataflow_analysis.specs.declared.Cursor.{Cursor}
use Rattle.dataflow_analysis.specs.Worklist.{State, begin, receive, news, popped, step, run}
use Rattle.dataflow_analysis.specs.WorklistLaws as general
use Rattle.dataflow_analysis.specs.Lattice.{masks}
use Rattle.dataflow_analysis.specs.MaskListLaws.{mask_laws, mask_size, met_inside}
use Rattle.dataflow_analysis.specs.declared.Worklist.{Worklist}
use Rattle.dataflow_analysis.specs.Queue.{waiting, Queued}
use Rattle.dataflow_analysis.specs.QueueLaws.{list_none, run_more, run_done}
use Rattle.dataflow_analysis.specs.Receipt.{flag, state_of, state, front, state_at, ListFits, SameSlices, Taken, Ended}
use Rattle.dataflow_analysis.specs.FrontLaws.{news_front, over_front}
use Rattle.dataflow_analysis.specs.ReceiptLaws.{same_slices, same_then}
use Rattle.stackless_bytecode.specs.declared.Bytecode.{Bytecode}
use Rattle.stackless_bytecode.specs.Sound.{Sound}
use Rattle.stackless_control_flow_graph.specs.Blocks.{starts, lowers, blocks_of, keyed}
use Rattle.livevar_analysis.specs.Live.{execute}
use Rattle.livevar_analysis.specs.LiveLaws.{transfer_lt}
use Rattle.livevar_analysis.specs.Analysis.{out_of, analyze_function}
use Rattle.livevar_analysis.specs.AnalysisLaws.{graph, narrow, bound_fits}
use Rattle.stackless_control_flow_graph.specs.Graph.{Edges}
use Rattle.stackless_control_flow_graph.specs.FlowLaws.{keys_blocks}
use Rattle.livevar_analysis.specs.Engine.{Analyzable, RunTables, leads, given, CanHand, HandedOn, HandedFront, CanOut, CanHandKey, Begun, CanRun, RunInput, SolveInput, Solved}
use Rattle.livevar_analysis.specs.declared.tables.Tables.{Tables}
use Rattle.livevar_analysis.specs.EngineLaws.{CanStep, step_out, step_hands, handed_at, handed_front}

-- ---- how many keys there are, and how many are taken

keep_few : (n k : ℕ) (f : ℕ → Bool) → length (keep n k f) ≤ n
unfolding keep
keep_few zero k f = omega arith
keep_few (suc n) k f =
    by_test (λ b. length (cond b (k ∷ keep n (suc k) f) (keep n (suc k) f)) ≤ suc n) (f k) (λ e. omega (arith, keep_few n (suc k) f))
    (λ e. omega (arith, keep_few n (suc k) f))

pub keys_few : (code : List Bytecode) → Sound code → length (keyed code) ≤ length code
unfolding blocks_of lowers
keys_few code sound = omega (arith, keys_blocks code sound, keep_few (length code) 0 (starts code))

-- ---- the invariant

-- the state is one of the run
pub record Runs (code : List Bytecode) (locals : ℕ) (st : State masks) : Type 0 where
  pub inv : general.Inv mask_laws (leads code) (out_of code (keyed code)) (mask_size locals) (2 + length (keyed code)) 1 st
  pub same : analyze_function code (keyed code) locals
      ≡ run (leads code) (out_of code (keyed code)) (taken_bound (length (keyed code)) locals - st.taken) st

module _ (code : List Bytecode) (locals : ℕ) (ok : Analyzable code locals) where
  small : (r : Bytecode) (m : ℕ) → Memᴰ r code → m < 2 ^ locals → execute r m < 2 ^ locals
  small r m i h = transfer_lt locals r m (ok.sources r i) h

  abbrev n : ℕ
  n = 2 + length (keyed code)

  abbrev out : ℕ → ℕ → ℕ
  out = out_of code (keyed code)

  whole : general.FlowGraph mask_laws (leads code) (out_of code (keyed code)) (2 + length (keyed code))
  whole = record { inside = (graph code ok.sound locals small).inside }

  thin : general.Narrow mask_laws (leads code) (out_of code (keyed code)) 1 (2 ^ locals - 1)
  thin = record {
    apart = (narrow code ok.sound locals small).apart;
    small = λ k v h. sub_full locals (out_of code (keyed code) k v) ((narrow code ok.sound locals small).small k v (sub_lt locals h (ones_lt locals)));
  }

  -- the bound of the run is that of the paper, and at most the list's length
  bound_is : (x : ℕ) → x + ones (2 ^ locals - 1) ≤ n + n * ones (2 ^ locals - 1) → x ≤ taken_bound (length (keyed code)) locals
  bound_is x h = omega (arith, bound_fits code ok.sound locals small, subst (λ (l : ℕ). x + l ≤ n + n * l) (ones-ones locals) h)

  below_bound : (x : ℕ) → x + ones (2 ^ locals - 1) < n + n * ones (2 ^ locals - 1) → x < taken_bound (length (keyed code)) locals
  below_bound x h = omega (arith, bound_fits code ok.sound locals small, subst (λ (l : ℕ). x + l < n + n * l) (ones-ones locals) h)

  pub bound_le : taken_bound (length (keyed code)) locals ≤ max_taken
  bound_le =
      let blocks : length (keyed code) + 1 ≤ max_instructions + 1 = omega (arith, keys_few code ok.sound, ok.few) in
      let width : locals + 1 ≤ max_locals + 1 = omega (arith, ok.narrow) in
      omega (arith, mul-le-mul blocks width)

  pub runs_few : (st : State masks) → Runs code locals st → st.taken + length st.list ≤ taken_bound (length (keyed code)) locals
  runs_few st r = bound_is (st.taken + length st.list) (general.inv_few mask_laws (leads code) out (mask_size locals) n 1 whole thin (omega arith) st r.inv)

  pub runs_begin : Runs code locals (begin n 1)
  unfolding analyze_function begin
  runs_begin =
      let all : taken_bound (length (keyed code)) locals ≡ taken_bound (length (keyed code)) locals - 0 = omega arith in
      record {
        inv = general.begin_inv mask_laws (leads code) out (mask_size locals) n 1 whole thin (omega arith);
        same = ap (λ (f : ℕ). run (leads code) out f (begin n 1)) all;
      }

  -- in the end there is a set for each node
  pub sets_count : length (analyze_function code (keyed code) locals).sets ≡ n
  unfolding analyze_function
  sets_count = (general.ends mask_laws (leads code) out (mask_size locals) n 1 whole thin (omega arith) (taken_bound (length (keyed code)) locals) enough).ok.sets_length
    where
      enough : n + n * ones (2 ^ locals - 1) ≤ taken_bound (length (keyed code)) locals + ones (2 ^ locals - 1)
      enough = subst (λ (l : ℕ). n + n * l ≤ taken_bound (length (keyed code)) locals + l) (sym (ones-ones locals)) (omega (arith, bound_fits code ok.sound locals small))

  -- a turn of the definition
  pub runs_step : (st : State masks) (k : ℕ) (ks : List ℕ) → st.list ≡ k ∷ ks → Runs code locals st → Runs code locals (step (leads code) out st k ks)
  runs_step st k ks e r =
      let left : taken_bound (length (keyed code)) locals - st.taken ≡ suc (taken_bound (length (keyed code)) locals - suc st.taken) = omega (arith, runs_few st r, ap length e) in
      record {
        inv = general.step_inv mask_laws (leads code) out (mask_size locals) n 1 whole thin (omega arith) st k ks e r.inv;
        same = r.same ∙ ap (λ (f : ℕ). run (leads code) out f st) left ∙ run_more (leads code) out (taken_bound (length (keyed code)) locals - suc st.taken) st k ks e
            ∙ ap (λ (t : ℕ). run (leads code) out (taken_bound (length (keyed code)) locals - t) (step (leads code) out st k ks)) (sym (general.step_taken mask_laws (leads code) out st k ks));
      }

  -- its end
  pub runs_done : (st : State masks) → st.list ≡ [] → Runs code locals st → analyze_function code (keyed code) locals ≡ st
  runs_done st e r = r.same ∙ run_done (leads code) out (taken_bound (length (keyed code)) locals - st.taken) st e

  -- ---- a turn of the code: key k is taken, and w₁ is left

  module _ (w w₁ : Worklist) (k : ℕ) (took : Taken w k w₁) (nodes : length w.met.now ≡ n) (sets : n ≤ length w.sets.now) (long : length w.queue.now ≡ max_taken) (fits : ListFits w) (r : Runs code locals (state_at n w)) where
    pub key_inside : k < n
    key_inside =
        met_inside (leads code) out n (state_at n w) r.inv.ok k
        (general.met_first mask_laws (leads code) out n whole (state_at n w) k (state w₁).list took.first r.inv.ok)

    own_is : get_or (state_at n w).sets k 0 ≡ get_or (map mask w₁.sets.now) k 0
    unfolding state_of popped
    own_is = get_or-take n (map mask w.sets.now) k 0 key_inside ∙ sym (ap (λ (s : State masks). get_or s.sets k 0) took.state_is)

    popped_is : state_at n w₁ ≡ popped (state_at n w) (state w₁).list
    popped_is = ap (front n) took.state_is ∙ (unfold popped in refl)

    leads_inside : (p : ℕ) → Memᴰ p (leads code k) → p < n
    leads_inside = (whole.inside k).each

    lead_inside : (i : ℕ) → i < length (leads code k) → get_or (leads code k) i 0 < n
    lead_inside i h = leads_inside (get_or (leads code k) i 0) (get_d_in (leads code k) i 0 h)

    -- where p has news when the nodes of ps have received m, the list is not full
    abbrev Roomy : List ℕ → ℕ → ℕ → State masks → Type 0
    Roomy ps p m s = news m (over (receive m) s ps) p ≡ true → (over (receive m) s ps).taken + length (over (receive m) s ps).list < length w₁.queue.now

    room_before : (i : ℕ) → i < length (leads code k)
        → Roomy (take i (leads code k)) (get_or (leads code k) i 0) (out k (get_or (state_at n w).sets k 0)) (popped (state_at n w) (state w₁).list)
    room_before i h e =
        let few = general.hand_fits mask_laws (leads code) out (mask_size locals) n 1 whole thin (omega arith) (state_at n w) k (state w₁).list took.first r.inv (take i (leads code k)) (λ p m. in_take i (leads code k) m) (get_or (leads code k) i 0) (get_d_in (leads code k) i 0 h) e in
        omega (arith, below_bound _ few, bound_le, long, took.same.queue_long)

    room_at : (i : ℕ) → i < length (leads code k) → Roomy (take i (leads code k)) (get_or (leads code k) i 0) (given code w₁.sets.now k) (state_at n w₁)
    room_at i h =
        subst (λ (m : ℕ). Roomy (take i (leads code k)) (get_or (leads code k) i 0) m (state_at n w₁)) (ap (out k) own_is)
        (subst (λ (s : State masks). Roomy (take i (leads code k)) (get_or (leads code k) i 0) (out k (get_or (state_at n w).sets k 0)) s) (sym popped_is) (room_before i h))

    -- whatever the number of sets
    room : (i : ℕ) → i < length (leads code k) → Roomy (take i (leads code k)) (get_or (leads code k) i 0) (given code w₁.sets.now k) (state w₁)
    room i h e =
        let ps = take i (leads code k) in
        let p = get_or (leads code k) i 0 in
        let m = given code w₁.sets.now k in
        let st : State masks = over (receive m) (state w₁) ps in
        let same : over (receive m) (state_at n w₁) ps ≡ front n st = over_front n m ps (λ q j. leads_inside q (in_take i (leads code k) j)) (state w₁) in
        subst (λ (s : State masks). news m s p ≡ true → s.taken + length s.list < length w₁.queue.now) same (room_at i h) (news_front n m st p (lead_inside i h) ∙ e)

    -- those that k leads to can receive what it hands on
    pub runs_hands : CanHand w₁ (leads code k) (given code w₁.sets.now k)
    runs_hands = record {
      list_fits = omega (arith, fits, took.same_end, took.same.queue_long);
      below_sets = λ i h. omega (arith, lead_inside i h, took.same.sets_long, sets);
      below = λ i h. omega (arith, lead_inside i h, took.same.met_long, nodes);
      room = λ i h. room i h;
    }

    -- and then the state is the definition's: that of the n nodes, whatever sets stand behind theirs
    pub runs_turn_front : (w₂ : Worklist) → state_at n w₂ ≡ over (receive (given code w₁.sets.now k)) (state_at n w₁) (leads code k) → Runs code locals (state_at n w₂)
    unfolding step
    runs_turn_front w₂ e =
        subst (Runs code locals) (sym (e ∙ ap₂ (λ (m : ℕ) (s : State masks). over (receive m) s (leads code k)) (ap (out k) (sym own_is)) popped_is))
        (runs_step (state_at n w) k (state w₁).list took.first r)

    -- so it is where all sets are as received
    pub runs_turn : (w₂ : Worklist) → HandedOn w₁ (leads code k) (given code w₁.sets.now k) w₂ → Runs code locals (state_at n w₂)
    runs_turn w₂ h = runs_turn_front w₂ (handed_at w₁ (leads code k) (given code w₁.sets.now k) w₂ n leads_inside h)

-- ---- the loop

module _ (t : Tables) (w₀ : Worklist) where
  -- for whatever code the tables are, the list has a state of its run
  pub record Held (w : Worklist) : Type 0 where
    pub runs : (code : List Bytecode) (locals : ℕ) → Begun code locals t w₀ → Runs code locals (state_at (2 + length (keyed code)) w)
    pub list_fits : ListFits w
    pub same : SameSlices w₀ w

  module _ (can : CanRun t w₀) where
    pub held_begin : Held w₀
    held_begin = record { runs = λ code locals b. subst (Runs code locals) (sym b.state_is) (runs_begin code locals b.analyzable); list_fits = can.begun.list_fits; same = same_slices w₀ }

    module _ (w : Worklist) (h : Held w) (k : ℕ) (w₁ : Worklist) (took : Taken w k w₁) where
      nodes_kept : {n : ℕ} → length w₀.met.now ≡ n → length w.met.now ≡ n
      nodes_kept e = h.same.met_long ∙ e

      sets_kept : {n : ℕ} → length w₀.met.now ≡ n → length w₀.met.now ≤ length w₀.sets.now → n ≤ length w.sets.now
      sets_kept e l = omega (arith, e, l, h.same.sets_long)

      held_asks : CanStep t w₁ k
      held_asks =
          let a = can.begun.analyzable in
          let nodes : length w.met.now ≡ 2 + length (keyed can.code) = nodes_kept can.begun.nodes in
          let sets : 2 + length (keyed can.code) ≤ length w.sets.now = sets_kept can.begun.nodes can.begun.sets_fit in
          let long : length w.queue.now ≡ max_taken = h.same.queue_long ∙ can.begun.list_long in
          let r = h.runs can.code can.locals can.begun in
          record {
            code = can.code;
            sound = a.sound;
            tables = can.begun.tables;
            nodes = took.same.met_long ∙ nodes;
            sets_fit = omega (arith, sets, took.same.sets_long, took.same.met_long, nodes);
            few = omega (arith, keys_few can.code a.sound, a.few, took.same.met_long, nodes);
            inside = omega (arith, key_inside can.code can.locals a w w₁ k took nodes sets long h.list_fits r, took.same.met_long, nodes);
            hands = runs_hands can.code can.locals a w w₁ k took nodes sets long h.list_fits r;
          }

      -- what `out_of` requires
      pub held_out : CanOut t w₁.sets.now k
      held_out = step_out t w₁ k held_asks

      module _ (m : ℕ) (out : (code : List Bytecode) → Sound code → RunTables code t → k < 2 + length (keyed code) → m ≡ given code w₁.sets.now k) where
        is_given : (code : List Bytecode) → Sound code → RunTables code t → length w₁.met.now ≡ 2 + length (keyed code) → m ≡ given code w₁.sets.now k
        is_given code sound tables nodes = out code sound tables (omega (arith, held_asks.inside))

        -- what `hand_key` requires
        pub held_hands : CanHandKey t w₁ k m
        held_hands = step_hands t w₁ k held_asks m (is_given held_asks.code held_asks.sound held_asks.tables held_asks.nodes)

        -- the nodes have received it, whatever sets stand behind theirs
        module _ (w₂ : Worklist)
            (hand : (code : List Bytecode) (locals : ℕ) → Analyzable code locals → Edges code t.first_edge.now t.edges.now → length w₁.met.now ≡ 2 + length (keyed code)
            → HandedFront (length w₁.met.now) w₁ (leads code k) m w₂) where
          stepped : (code : List Bytecode) (locals : ℕ) → Begun code locals t w₀ → HandedFront (2 + length (keyed code)) w₁ (leads code k) (given code w₁.sets.now k) w₂
          stepped code locals b =
              let nodes : length w₁.met.now ≡ 2 + length (keyed code) = took.same.met_long ∙ nodes_kept b.nodes in
              subst (λ (x : ℕ). HandedFront x w₁ (leads code k) (given code w₁.sets.now k) w₂) nodes
              (subst (λ (x : ℕ). HandedFront (length w₁.met.now) w₁ (leads code k) x w₂) (is_given code b.analyzable.sound b.tables nodes) (hand code locals b.analyzable b.tables.leads_are nodes))

          -- the head has moved by one
          pub front_head : w₂.cursor.head ≡ w.cursor.head + 1
          front_head = (stepped can.code can.locals can.begun).same_head ∙ took.next_head

          -- and the state is that of the definition's next turn
          pub front_runs : (code : List Bytecode) (locals : ℕ) → Begun code locals t w₀ → Runs code locals (state_at (2 + length (keyed code)) w₂)
          front_runs code locals b =
              runs_turn_front code locals b.analyzable w w₁ k took (nodes_kept b.nodes) (sets_kept b.nodes b.sets_fit) (h.same.queue_long ∙ b.list_long) h.list_fits (h.runs code locals b) w₂
              (stepped code locals b).state_is

          pub front_more : SameSlices w₁ w₂ → Held w₂
          front_more same = record { runs = front_runs; list_fits = (stepped can.code can.locals can.begun).list_fits; same = same_then h.same (same_then took.same same) }

        -- all sets are as received
        module _ (w₂ : Worklist) (hand : (code : List Bytecode) → Edges code t.first_edge.now t.edges.now → length w₁.met.now ≡ 2 + length (keyed code) → HandedOn w₁ (leads code k) m w₂) where
          fronts : (code : List Bytecode) (locals : ℕ) → Analyzable code locals → Edges code t.first_edge.now t.edges.now → length w₁.met.now ≡ 2 + length (keyed code)
              → HandedFront (length w₁.met.now) w₁ (leads code k) m w₂
          fronts code locals a edges nodes =
              handed_front w₁ (leads code k) m w₂ (length w₁.met.now) (λ p i. subst (λ (x : ℕ). p < x) (sym nodes) (((whole code locals a).inside k).each p i)) (hand code edges nodes)

          -- the head has moved by one
          pub held_head : w₂.cursor.head ≡ w.cursor.head + 1
          held_head = front_head w₂ fronts

          pub held_more : Held w₂
          held_more = front_more w₂ fronts (hand can.code can.begun.tables.leads_are (took.same.met_long ∙ nodes_kept can.begun.nodes)).same

    -- the end: none waits
    pub held_done : (w w₁ : Worklist) → Held w → Ended w w₁ → (code : List Bytecode) (locals : ℕ) → Begun code locals t w₀ → Solved code locals w₁.cursor.head w₁.sets.now
    unfolding state_of
    held_done w w₁ h e code locals b =
        let n = 2 + length (keyed code) in
        let is = ap (front n) e.state_is ∙ sym (runs_done code locals b.analyzable (state_at n w) e.none (h.runs code locals b)) in
        record { taken = ap (λ (s : State masks). s.taken) is; final = ap (λ (s : State masks). s.sets) is }

-- ---- the beginning: all is blank, and key 1 is met and waits

-- the front of a list that is blank
part_blank : {A : Type 0} (xs : List A) (blank : A) (m k : ℕ) → ((j : ℕ) → get_or xs j blank ≡ blank) → get_or (take m xs) k blank ≡ blank
part_blank xs blank m k h =
    by_lt k m (λ l. get_or-take m xs k blank l ∙ h k) (λ l. get_or-eq_default (take m xs) blank {n = k} (omega (arith, length-take m xs)))

module _ (code : List Bytecode) (locals : ℕ) (t : Tables) (sets : List LiveVarState) (met : List Bool) (q : List ℕ) (input : RunInput code locals t sets met q) where
  no_sets : take (2 + length (keyed code)) (map mask sets) ≡ replicate (2 + length (keyed code)) 0
  no_sets =
      let n = 2 + length (keyed code) in
      let long : length (take n (map mask sets)) ≡ n = length-take-le n (map mask sets) (omega (arith, length-map sets mask, input.sets_fit, input.nodes)) in
      ext_get_or 0 (take n (map mask sets)) (replicate n 0) (long ∙ sym (length-replicate {A = ℕ} n 0))
      (λ i h. part_blank (map mask sets) 0 n i input.sets_blank ∙ sym (copies_at n i 0))

  none_met : map flag met ≡ replicate (2 + length (keyed code)) 0
  none_met =
      ext_get_or 0 (map flag met) (replicate (2 + length (keyed code)) 0) (omega (arith, length-map met flag, input.nodes, length-replicate {A = ℕ} (2 + length (keyed code)) 0))
      (λ i h. get_or-map flag met i false ∙ ap flag (input.met_blank i) ∙ sym (copies_at (2 + length (keyed code)) i 0))

  pub begun : (none : Cursor) → none.head ≡ 0 → none.len ≡ 0 → (w : Worklist) → w.sets.now ≡ sets → w.met.now ≡ set met 1 true → Queued q none 1 w.queue.now w.cursor → length w.queue.now ≡ length q
      → Begun code locals t w
  begun none first empty w es em put long = record {
    analyzable = input.analyzable;
    tables = input.tables;
    nodes = ap length em ∙ length-set met 1 true ∙ input.nodes;
    sets_fit = omega (arith, ap length em, length-set met 1 true, ap length es, input.sets_fit);
    list_long = long ∙ input.list_long;
    list_fits = put.within;
    state_is = here;
  }
    where
      here : state_at (2 + length (keyed code)) w ≡ begin (2 + length (keyed code)) 1
      here = unfold state_of begin in
          let list : waiting w.queue.now w.cursor ≡ 1 ∷ [] = put.queued ∙ ap (λ (l : List ℕ). l ++ (1 ∷ [])) (list_none q none empty) in
          let start : w.cursor.head ≡ 0 = put.same_head ∙ first in
          rw (es, em, map-set flag met 1 true, no_sets, none_met, list, start)

-- ---- the arrays that solve makes

module _ {code : List Bytecode} {locals : ℕ} {t : Tables} {m : ℕ} {sets : List LiveVarState} (input : SolveInput code locals t m sets) where
  pub few_nodes : m ≤ max_instructions
  few_nodes = omega (arith, input.count, keys_few code input.analyzable.sound, input.analyzable.few)

  -- with sets that are blank, and enough of them
  start_with : (part : List LiveVarState) → m + 2 ≤ length part → ((k : ℕ) → get_or (map mask part) k 0 ≡ 0)
      → RunInput code locals t part (take (m + 2) (replicate (max_instructions + 2) false)) (replicate max_taken 0)
  start_with part fit blank = record {
    analyzable = input.analyzable;
    tables = input.tables;
    nodes = long ∙ (omega (arith, input.count));
    sets_fit = omega (arith, long, fit);
    list_long = length-replicate {A = ℕ} max_taken 0;
    sets_blank = blank;
    met_blank = λ k. part_blank (replicate (max_instructions + 2) false) false (m + 2) k (λ j. copies_at (max_instructions + 2) j false);
  }
    where
      long : length (take (m + 2) (replicate {A = Bool} (max_instructions + 2) false)) ≡ m + 2
      long = length-take-le (m + 2) (replicate (max_instructions + 2) false) (omega (arith, few_nodes, length-replicate {A = Bool} (max_instructions + 2) false))

  -- all the sets will do
  pub start_whole : RunInput code locals t sets (take (m + 2) (replicate (max_instructions + 2) false)) (replicate max_taken 0)
  start_whole = start_with sets input.sets_fit input.sets_blank

  -- and so will those of the keys
  pub start_input : RunInput code locals t (take (m + 2) sets) (take (m + 2) (replicate (max_instructions + 2) false)) (replicate max_taken 0)
  start_input =
      start_with (take (m + 2) sets) (omega (arith, length-take-le (m + 2) sets input.sets_fit))
      (λ k. ap (λ (l : List ℕ). get_or l k 0) (sym (take-map mask (m + 2) sets)) ∙ part_blank (map mask sets) 0 (m + 2) k input.sets_blank)

  -- the sets past those of the keys are as they were
  pub solved_front : (r : ℕ) (new rest : List LiveVarState) → length new ≡ length (take (m + 2) sets) → Solved code locals r new → Solved code locals r (new ++ rest)
  solved_front r new rest long solved = record {
    taken = solved.taken;
    final = rw (map-append) (take-append-le (2 + length (keyed code)) (map mask new) (map mask rest) (omega (arith, length-map new mask, long, length-take-le (m + 2) sets input.sets_fit, input.count))) ∙ solved.final;
  }
