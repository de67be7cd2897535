-- The live sets obey the paper's rules, no sets that obey them have less, and no more blocks are taken than the bound. Assumes nothing.
use Rattle.std.specs.Prelude.{◌≡◌, false, get_or, take, drop, refl, List, [], map, ℕ, zero, suc, ◌+◌, ◌-◌, ◌*◌, ◌^◌, ◌≤◌, ◌<◌, length}
use Rattle.std.proofs.Common.{sym, ap, ap₂, subst, ◌∙◌, add-mul, mul-add, mul-one, one-mul, zero-add, arith}
use mathlib.Core.List.Memᴰ
use mathlib.Core.List.{Memᴰ}
use Rattle.std.proofs.lemmas.List.{length-map}
use Rattle.dataflow_domains.specs.Mask.{bit, unions, Sub}
use Rattle.dataflow_domains.specs.MaskLaws.{sub_eq, sub_trans, sub_antisymm, sub_empty, bit_empty, unions_in, unions_least, unions_one, sub_by, sub_at}
use Rattle.dataflow_analysis.specs.Worklist.{State, set_at, Met, begin}
use Rattle.dataflow_analysis.specs.QueueLaws.{run_longer}
use Rattle.dataflow_analysis.specs.Lattice.{masks}
use Rattle.dataflow_analysis.specs.MaskListLaws.{MaskGraph, MaskNarrow, Source, MaskBest, best}
use Rattle.livevar_analysis.specs.Live.{Obeys, Post, execute}
use Rattle.stackless_bytecode.specs.declared.Bytecode.{Bytecode}
use Rattle.base.specs.Lists.{place}
use Rattle.livevar_analysis.specs.LiveLaws.{transfer_mono}
use Rattle.stackless_bytecode.specs.Kinds.{at}
use Rattle.stackless_bytecode.specs.Successors.{successors}
use Rattle.stackless_control_flow_graph.specs.Blocks.{starts, lower_of, upper_of, keyed, key_of}
use Rattle.stackless_control_flow_graph.specs.Backward.{nexts_of, leads_to}
use Rattle.livevar_analysis.specs.Analysis.{execute_all, rest_of, out_of, state_after, analyze_function, LiveVarInfo, no_info, info_of, analyze}
use Rattle.base.specs.Sizes.{taken_bound}
use Rattle.base.specs.ListLaws.{map_in, in_map, in_take, in_drop, get_d_in, get_d_tab, length_tab, in_tab, tab_in, place_lt, get_d_place, place_get_d}
use Rattle.stackless_bytecode.specs.Sound.{Sound}
use Rattle.stackless_control_flow_graph.specs.BlockLaws.{Last, succs_mid, succs_start, upper_le, upper_lt, upper_last, upper_next, upper_stop, lower_start, lower_next, lower_starts, lower_le, upper_lower, keyed_in, in_keyed, keyed_distinct}
use Rattle.stackless_control_flow_graph.specs.Blocks.{Start}
use Rattle.stackless_control_flow_graph.specs.GraphLaws.{keys_once}
use Rattle.livevar_analysis.specs.BlockRuleLaws.{obeys_post, preds_in, Edge, in_preds, get_d_map_lt, map_same, before_mono, before_lt, behind, rest_is, behind_last, behind_mid, by_last, sides_by}

-- ---- the graph of a sheet

module _ (code : List Bytecode) (sound : Sound code) (l : ℕ) (small : (r : Bytecode) (m : ℕ) → Memᴰ r code → m < 2 ^ l → execute r m < 2 ^ l) where
  nexts_length : length (nexts_of code (keyed code)) ≡ 2 + length (keyed code)
  unfolding nexts_of
  nexts_length = omega (arith, length-map (keyed code) (λ o. map (key_of (keyed code)) (successors code (upper_of code o))))

  -- the successors' keys of the block at offset o
  next_is : (j : ℕ) → j < length (keyed code) → get_or (nexts_of code (keyed code)) (suc (suc j)) [] ≡ map (key_of (keyed code)) (successors code (upper_of code (get_or (keyed code) j 0)))
  unfolding nexts_of
  next_is j h = get_d_map_lt (λ o. map (key_of (keyed code)) (successors code (upper_of code o))) (keyed code) j 0 [] h

  -- the offset of a key
  key_offset : (o : ℕ) → Start code o → get_or (keyed code) (place o (keyed code)) 0 ≡ o
  key_offset o s = get_d_place o (keyed code) (keyed_in code o s)

  -- where an edge to key k comes from: the entrance, or a block
  data From (k p : ℕ) : Type 0 where
    entrance : p ≡ 0 → k ≡ key_of (keyed code) 0 → From k p
    block : (o o' : ℕ) → Start code o → p ≡ key_of (keyed code) o → Memᴰ o' (successors code (upper_of code o)) → k ≡ key_of (keyed code) o' → From k p

  from_edge : (k p : ℕ) → Edge (nexts_of code (keyed code)) 0 k p → From k p
  unfolding nexts_of key_of
  from_edge k p e = go e.from (e.is ∙ zero-add e.from) e.inside e.edge
    where
      go : (f : ℕ) → p ≡ f → f < length (nexts_of code (keyed code)) → Memᴰ k (get_or (nexts_of code (keyed code)) f []) → From k p
      go zero is h m = entrance is (Memᴰ.eq_of_singleton m)
      go (suc zero) is h m = absurd (Memᴰ.not-nil m)
      go (suc (suc j)) is h m =
          let within : j < length (keyed code) = omega (arith, nexts_length) in
          let r = in_map (key_of (keyed code)) (successors code (upper_of code (get_or (keyed code) j 0))) k (subst (λ (x : List ℕ). Memᴰ k x) (next_is j within) m) in
          block (get_or (keyed code) j 0) r.0 (in_keyed code sound (get_or (keyed code) j 0) (get_d_in (keyed code) j 0 within))
          (is ∙ ap (λ (x : ℕ). suc (suc x)) (sym (place_get_d j (keyed_distinct code) within))) r.1 r.2

  -- the edge from the block at o to the block at o'
  edge_in : (o o' : ℕ) → Start code o → Memᴰ o' (successors code (upper_of code o))
      → Memᴰ (key_of (keyed code) o) (leads_to (nexts_of code (keyed code)) (key_of (keyed code) o'))
  unfolding key_of leads_to
  edge_in o o' s i =
      let j = place o (keyed code) in
      let h : j < length (keyed code) = place_lt o (keyed code) (keyed_in code o s) in
      Memᴰ.cast (sym (zero-add (suc (suc j)))) (preds_in (nexts_of code (keyed code)) 0 (suc (suc (place o' (keyed code)))) (suc (suc j)) (omega (arith, nexts_length))
      (subst (λ (x : List ℕ). Memᴰ (suc (suc (place o' (keyed code)))) x) (sym (next_is j h ∙ ap (λ (x : ℕ). map (key_of (keyed code)) (successors code (upper_of code x))) (key_offset o s))) (map_in (key_of (keyed code)) (successors code (upper_of code o)) i)))

  -- what a key leads to: the exit to every block, any other to where its edges come from
  data LeadsTo (k p : ℕ) : Type 0 where
    exit : k ≡ 1 → 2 ≤ p → p < 2 + length (keyed code) → LeadsTo k p
    edge : From k p → LeadsTo k p

  leads_is : (k p : ℕ) → Memᴰ p (leads_to (nexts_of code (keyed code)) k) → LeadsTo k p
  unfolding leads_to
  leads_is zero p m = edge (from_edge 0 p (in_preds (nexts_of code (keyed code)) 0 0 p m))
  leads_is (suc zero) p m = let r = in_tab (length (nexts_of code (keyed code)) - 2) 2 p m in exit refl r.0 (omega (arith, r.1, nexts_length))
  leads_is (suc (suc k)) p m = edge (from_edge (suc (suc k)) p (in_preds (nexts_of code (keyed code)) 0 (suc (suc k)) p m))

  exit_leads : (o : ℕ) → Start code o → Memᴰ (key_of (keyed code) o) (leads_to (nexts_of code (keyed code)) 1)
  unfolding key_of leads_to
  exit_leads o s =
      tab_in (length (nexts_of code (keyed code)) - 2) 2 (suc (suc (place o (keyed code)))) (omega arith)
      (omega (arith, nexts_length, place_lt o (keyed code) (keyed_in code o s)))

  -- the block at o hands on the set before it
  out_is : (o m : ℕ) → Start code o → out_of code (keyed code) (key_of (keyed code) o) m ≡ execute_all (rest_of code o) m
  unfolding out_of key_of
  out_is o m s = ap (λ (x : ℕ). execute_all (rest_of code x) m) (key_offset o s)

  out_exit : (m : ℕ) → out_of code (keyed code) 1 m ≡ m
  unfolding out_of
  out_exit m = refl

  -- ---- it is a graph of the work list

  leads_lt : (k p : ℕ) → LeadsTo k p → p < 2 + length (keyed code)
  leads_lt k p (exit e a b) = b
  leads_lt k p (edge (entrance e q)) = omega arith
  leads_lt k p (edge (block o o' s e i q)) = unfold key_of in omega (arith, place_lt o (keyed code) (keyed_in code o s))

  out_mono : (k a b : ℕ) → Sub a b → Sub (out_of code (keyed code) k a) (out_of code (keyed code) k b)
  unfolding out_of
  out_mono zero a b p = p
  out_mono (suc zero) a b p = p
  out_mono (suc (suc k)) a b p = before_mono (rest_of code (get_or (keyed code) k 0)) a b p

  pub graph : MaskGraph (leads_to (nexts_of code (keyed code))) (out_of code (keyed code)) (2 + length (keyed code))
  graph = record { inside = λ k. record { each = λ p m. leads_lt k p (leads_is k p m) }; mono = out_mono }

  pub narrow : MaskNarrow (leads_to (nexts_of code (keyed code))) (out_of code (keyed code)) 1 l
  unfolding out_of rest_of
  narrow = record { apart = λ k m. apart k (leads_is k 1 m); small = out_lt }
    where
      apart : (k : ℕ) → LeadsTo k 1 → ⊥
      apart k (exit e a b) = omega arith
      apart k (edge (entrance e q)) = omega arith
      apart k (edge (block o o' s e i q)) = unfold key_of in omega arith

      out_lt : (k m : ℕ) → m < 2 ^ l → out_of code (keyed code) k m < 2 ^ l
      out_lt zero m h = h
      out_lt (suc zero) m h = h
      out_lt (suc (suc k)) m h =
          let o = get_or (keyed code) k 0 in
          before_lt l (take (suc (upper_of code o) - o) (drop o code)) (λ r x i. small r x (in_drop o code (in_take (suc (upper_of code o) - o) (drop o code) i))) m h

  -- ---- the run

  st : State masks
  st = analyze_function code (keyed code) l

  pub bound_fits : (2 + length (keyed code)) + (2 + length (keyed code)) * l ≡ taken_bound (length (keyed code)) l + l
  bound_fits =
      let b = length (keyed code) in
      omega (arith, add-mul 2 b l, add-mul b 1 (l + 1), mul-add b l 1, mul-one b, one-mul (l + 1))

  is_best : MaskBest (leads_to (nexts_of code (keyed code))) (out_of code (keyed code)) (2 + length (keyed code)) 1 l st
  unfolding st analyze_function
  is_best = best (leads_to (nexts_of code (keyed code))) (out_of code (keyed code)) (2 + length (keyed code)) 1 l graph narrow (omega arith) (taken_bound (length (keyed code)) l) (omega (arith, bound_fits))

  -- the set after the block at o, and the set before it
  tail : ℕ → ℕ
  tail o = set_at st (key_of (keyed code) o)

  head : ℕ → ℕ
  head o = execute_all (rest_of code o) (tail o)

  start_met : (o : ℕ) → Start code o → Met st (key_of (keyed code) o)
  start_met o s = ((is_best.handed 1 is_best.first).each (key_of (keyed code) o) (exit_leads o s)).met

  start_of : (o o' : ℕ) → Start code o → Memᴰ o' (successors code (upper_of code o)) → Start code o'
  start_of o o' s i =
      succs_start code sound (upper_of code o) o' (upper_lt code o s.inside) (upper_last code o s.inside) i

  -- what a successor has before it, the block has behind it
  tail_has : (o o' : ℕ) → Start code o → Memᴰ o' (successors code (upper_of code o)) → Sub (head o') (tail o)
  unfolding head tail
  tail_has o o' s i =
      let s' = start_of o o' s i in
      let given = ((is_best.handed (key_of (keyed code) o') (start_met o' s')).each (key_of (keyed code) o) (edge_in o o' s i)).has in
      subst (λ (x : ℕ). Sub x (set_at st (key_of (keyed code) o))) (out_is o' (set_at st (key_of (keyed code) o')) s') given

  -- and it has nothing else
  tail_from : (o i : ℕ) → Start code o → bit (tail o) i ≡ 1 → bit (unions (map head (successors code (upper_of code o)))) i ≡ 1
  unfolding tail head
  tail_from o i s b = go (is_best.sourced.each (key_of (keyed code) o) i b)
    where
      found : (k : ℕ) → LeadsTo k (key_of (keyed code) o) → bit (out_of code (keyed code) k (set_at st k)) i ≡ 1 → bit (unions (map head (successors code (upper_of code o)))) i ≡ 1
      found k (exit e x y) g =
          let none : set_at st k ≡ 0 = ap (set_at st) e ∙ is_best.bare in
          let same = ap (λ (x : ℕ). out_of code (keyed code) x (set_at st k)) e ∙ out_exit (set_at st k) ∙ none in
          absurd (omega (arith, g, ap (λ (x : ℕ). bit x i) same, bit_empty i))
      found k (edge (entrance e q)) g = unfold key_of in absurd (omega arith)
      found k (edge (block a o' sa e m q)) g =
          let same : o ≡ a = keys_once code sound o a s sa e in
          let m' = subst (λ (x : ℕ). Memᴰ o' (successors code (upper_of code x))) (sym same) m in
          let g' = subst (λ (x : ℕ). bit (out_of code (keyed code) x (set_at st x)) i ≡ 1) q g in
          sub_at (unions_in (map head (successors code (upper_of code o))) (map_in head (successors code (upper_of code o)) m')) i
          (subst (λ (x : ℕ). bit x i ≡ 1) (out_is o' (set_at st (key_of (keyed code) o')) (start_of o o' s m')) g')

      go : Source (leads_to (nexts_of code (keyed code))) (out_of code (keyed code)) st (key_of (keyed code) o) i → bit (unions (map head (successors code (upper_of code o)))) i ≡ 1
      go src = found src.from (leads_is src.from (key_of (keyed code) o) src.to) src.gives

  tail_is : (o : ℕ) → Start code o → tail o ≡ unions (map head (successors code (upper_of code o)))
  tail_is o s =
      sub_antisymm (sub_by (λ i b. tail_from o i s b))
      (unions_least (map head (successors code (upper_of code o))) (tail o) (λ x m. let r = in_map head (successors code (upper_of code o)) x m in
      subst (λ (y : ℕ). Sub y (tail o)) (sym r.2) (tail_has o r.0 s r.1)))

  -- ---- the sets of each instruction

  pub after_at_lem : ℕ → ℕ
  after_at_lem k = execute_all (behind code k) (tail (lower_of code k))

  pub before_at_lem : ℕ → ℕ
  before_at_lem k = execute (at code k) (after_at_lem k)

  lower_is : (k : ℕ) → k < length code → Start code (lower_of code k)
  lower_is k h = record { inside = omega (arith, lower_le code k); starts = lower_starts code k }

  before_rest : (k : ℕ) → k < length code → before_at_lem k ≡ execute_all (rest_of code k) (tail (lower_of code k))
  unfolding execute_all before_at_lem after_at_lem
  before_rest k h = ap (λ (rs : List Bytecode). execute_all rs (tail (lower_of code k))) (sym (rest_is code k h))

  before_start : (o : ℕ) → Start code o → before_at_lem o ≡ head o
  unfolding head
  before_start o s = before_rest o s.inside ∙ ap (λ (x : ℕ). execute_all (rest_of code o) (tail x)) (lower_start code o s.starts)

  after_last : (k : ℕ) → k < length code → Last code k → after_at_lem k ≡ tail (lower_of code k)
  unfolding after_at_lem execute_all
  after_last k h last = ap (λ (rs : List Bytecode). execute_all rs (tail (lower_of code k))) (behind_last code k h last)

  after_mid : (k : ℕ) → suc k < length code → starts code (suc k) ≡ false → after_at_lem k ≡ before_at_lem (suc k)
  unfolding after_at_lem
  after_mid k g e =
      ap₂ (λ (rs : List Bytecode) (x : ℕ). execute_all rs (tail x)) (behind_mid code k g e) (sym (lower_next code k e))
      ∙ sym (before_rest (suc k) g)

  after_rule : (k : ℕ) → k < length code → after_at_lem k ≡ unions (map before_at_lem (successors code k))
  after_rule k h = by_last code k h stop on
    where
      stop : Last code k → after_at_lem k ≡ unions (map before_at_lem (successors code k))
      stop last =
          let s = lower_is k h in
          let upper : upper_of code (lower_of code k) ≡ k = upper_lower code k h ∙ upper_stop code k h last in
          after_last k h last
          ∙ tail_is (lower_of code k) s
          ∙ ap unions (map_same head before_at_lem (successors code (upper_of code (lower_of code k))) (λ o i. sym (before_start o (start_of (lower_of code k) o s i))))
          ∙ ap (λ (u : ℕ). unions (map before_at_lem (successors code u))) upper

      on : suc k < length code → starts code (suc k) ≡ false → after_at_lem k ≡ unions (map before_at_lem (successors code k))
      on g e =
          after_mid k g e ∙ sym (unions_one (before_at_lem (suc k)))
          ∙ sym (ap (λ (l : List ℕ). unions (map before_at_lem l)) (succs_mid code k e))

  pub obeys : Obeys code before_at_lem after_at_lem
  unfolding before_at_lem
  obeys = record { after = after_rule; before = λ k h. refl }

  -- ---- no sets that have at least what the rules give have less

  module _ (b a : ℕ → ℕ) (post : Post code b a) where
    after_on : (k : ℕ) → k < length code → starts code (suc k) ≡ false → Sub (b (suc k)) (a k)
    after_on k h e = post.after k (suc k) h (subst (λ (l : List ℕ). Memᴰ (suc k) l) (sym (succs_mid code k e)) (Memᴰ.head refl))

    through_last : (k : ℕ) → k < length code → Last code k → Sub (execute_all (behind code k) (a (upper_of code k))) (a k)
    unfolding execute_all
    through_last k h last = sub_eq (ap₂ (λ (rs : List Bytecode) (x : ℕ). execute_all rs (a x)) (behind_last code k h last) (upper_stop code k h last))

    through_mid : (k : ℕ) → suc k < length code → starts code (suc k) ≡ false
        → Sub (execute_all (behind code (suc k)) (a (upper_of code (suc k)))) (a (suc k)) → Sub (execute_all (behind code k) (a (upper_of code k))) (a k)
    unfolding execute_all
    through_mid k g f ih =
        sub_trans (sub_eq (ap₂ (λ (rs : List Bytecode) (x : ℕ). execute_all rs (a x)) (behind_mid code k g f ∙ rest_is code (suc k) g) (upper_next code k g f)))
        (sub_trans (transfer_mono (at code (suc k)) _ _ ih) (sub_trans (post.before (suc k) g) (after_on k (omega arith) f)))

    -- d steps before the end of its block, what stands behind k makes no more than its set after of the one at the end
    through : (d k : ℕ) → k < length code → k + d ≡ upper_of code k → Sub (execute_all (behind code k) (a (upper_of code k))) (a k)
    through zero k h e =
        let same : upper_of code k ≡ k = omega arith in
        through_last k h (subst (Last code) same (upper_last code k h))
    through (suc d) k h e =
        by_last code k h (through_last k h)
        (λ g f. through_mid k g f (through d (suc k) g (omega (arith, e, upper_next code k g f))))

    behind_in : (k : ℕ) → k < length code → Sub (execute_all (behind code k) (a (upper_of code k))) (a k)
    behind_in k h = through (upper_of code k - k) k h (omega (arith, upper_le code k))

    rest_in : (k : ℕ) → k < length code → Sub (execute_all (rest_of code k) (a (upper_of code k))) (b k)
    unfolding execute_all
    rest_in k h =
        sub_trans (sub_eq (ap (λ (rs : List Bytecode). execute_all rs (a (upper_of code k))) (rest_is code k h)))
        (sub_trans (transfer_mono (at code k) _ _ (behind_in k h)) (post.before k h))

    -- the candidate by key
    cand : ℕ → ℕ
    cand zero = b 0
    cand (suc zero) = 0
    cand (suc (suc j)) = a (upper_of code (get_or (keyed code) j 0))

    cand_key : (o : ℕ) → Start code o → cand (key_of (keyed code) o) ≡ a (upper_of code o)
    unfolding cand key_of
    cand_key o s = ap (λ (x : ℕ). a (upper_of code x)) (key_offset o s)

    start_zero : Start code 0
    start_zero = record { inside = sound.some; starts = unfold starts in refl }

    cand_out : (k o : ℕ) → k ≡ key_of (keyed code) o → Start code o → Sub (out_of code (keyed code) k (cand k)) (b o)
    cand_out k o q s =
        sub_trans (sub_eq (ap (λ (x : ℕ). out_of code (keyed code) x (cand x)) q ∙ out_is o (cand (key_of (keyed code) o)) s ∙ ap (execute_all (rest_of code o)) (cand_key o s)))
        (rest_in o s.inside)

    cand_edge : (k p : ℕ) → From k p → Sub (out_of code (keyed code) k (cand k)) (cand p)
    cand_edge k p (entrance e q) = sub_trans (cand_out k 0 q start_zero) (sub_eq (sym (ap cand e ∙ cand_zero)))
      where
        cand_zero : cand 0 ≡ b 0
        cand_zero = unfold cand in refl
    cand_edge k p (block o o' s e i q) =
        sub_trans (cand_out k o' q (start_of o o' s i))
        (sub_trans (post.after (upper_of code o) o' (upper_lt code o s.inside) i) (sub_eq (sym (ap cand e ∙ cand_key o s))))

    cand_leads : (k p : ℕ) → LeadsTo k p → Sub (out_of code (keyed code) k (cand k)) (cand p)
    cand_leads k p (exit e x y) =
        subst (λ (z : ℕ). Sub z (cand p)) (sym (ap (λ (z : ℕ). out_of code (keyed code) z (cand z)) e ∙ out_exit (cand 1) ∙ cand_one)) (sub_empty (cand p))
      where
        cand_one : cand 1 ≡ 0
        cand_one = unfold cand in refl
    cand_leads k p (edge f) = cand_edge k p f

    tail_least : (o : ℕ) → Start code o → Sub (tail o) (a (upper_of code o))
    unfolding tail
    tail_least o s =
        subst (λ (x : ℕ). Sub (set_at st (key_of (keyed code) o)) x) (cand_key o s)
        ((is_best.least cand (record { each = λ k p m. cand_leads k p (leads_is k p m) })).each (key_of (keyed code) o))

    pub after_least : (k : ℕ) → k < length code → Sub (after_at_lem k) (a k)
    unfolding after_at_lem
    after_least k h =
        let t = subst (λ (x : ℕ). Sub (tail (lower_of code k)) (a x)) (upper_lower code k h) (tail_least (lower_of code k) (lower_is k h)) in
        sub_trans (before_mono (behind code k) _ _ t) (behind_in k h)

    pub before_least : (k : ℕ) → k < length code → Sub (before_at_lem k) (b k)
    unfolding before_at_lem
    before_least k h = sub_trans (transfer_mono (at code k) (after_at_lem k) (a k) (after_least k h)) (post.before k h)

  -- ---- what live gives

  pub taken_le : (analyze code l).taken ≤ taken_bound (length (keyed code)) l
  unfolding analyze st
  taken_le = omega (arith, is_best.few, bound_fits)

  -- with the bound as fuel, or with more, the list is empty in the end, and as many are taken
  pub list_empty : (fuel : ℕ) → taken_bound (length (keyed code)) l ≤ fuel → (state_after code (keyed code) fuel).list ≡ []
  list_empty fuel h =
      (best (leads_to (nexts_of code (keyed code))) (out_of code (keyed code)) (2 + length (keyed code)) 1 l graph narrow (omega arith) fuel (omega (arith, bound_fits))).done

  pub same_taken : (fuel : ℕ) → taken_bound (length (keyed code)) l ≤ fuel → (state_after code (keyed code) fuel).taken ≡ (analyze code l).taken
  unfolding analyze analyze_function
  same_taken fuel h =
      let bound = taken_bound (length (keyed code)) l in
      let more : fuel ≡ bound + (fuel - bound) = omega arith in
      ap (λ (f : ℕ). (state_after code (keyed code) f).taken) more
      ∙ ap (λ (s : State masks). s.taken) (run_longer (leads_to (nexts_of code (keyed code))) (out_of code (keyed code)) bound (fuel - bound) (begin (2 + length (keyed code)) 1) (list_empty bound (omega arith)))

  pub sides_length : length (analyze code l).info ≡ length code
  unfolding analyze
  sides_length = length_tab (length code) 0 _

  pub sides_at_lem : (k : ℕ) (d : LiveVarInfo) → k < length code → get_or (analyze code l).info k d ≡ record { before = before_at_lem k; after = after_at_lem k }
  unfolding analyze info_of st before_at_lem after_at_lem tail execute_all
  sides_at_lem k d h =
      get_d_tab (length code) 0 k (λ j. info_of code j (set_at (analyze_function code (keyed code) l) (key_of (keyed code) (lower_of code j)))) d h
      ∙ ap (λ (j : ℕ). info_of code j (set_at (analyze_function code (keyed code) l) (key_of (keyed code) (lower_of code j)))) (zero-add k)
      ∙ ap (λ (rs : List Bytecode). sides_by (at code k) (execute_all (drop 1 rs) (set_at (analyze_function code (keyed code) l) (key_of (keyed code) (lower_of code k))))) (rest_is code k h)

  succs_lt : (k o : ℕ) → k < length code → Memᴰ o (successors code k) → o < length code
  succs_lt k o h i =
      by_last code k h (λ last. (succs_start code sound k o h last i).inside)
      (λ g e. let s : o ≡ suc k = Memᴰ.eq_of_singleton (subst (λ (x : List ℕ). Memᴰ o x) (succs_mid code k e) i) in omega arith)

  -- the sets that live gives
  abbrev pub before_in : ℕ → ℕ
  before_in k = (get_or (analyze code l).info k no_info).before

  abbrev pub after_in : ℕ → ℕ
  after_in k = (get_or (analyze code l).info k no_info).after

  before_in_lem : (k : ℕ) → k < length code → before_in k ≡ before_at_lem k
  before_in_lem k h = ap (λ (x : LiveVarInfo). x.before) (sides_at_lem k no_info h)

  after_in_lem : (k : ℕ) → k < length code → after_in k ≡ after_at_lem k
  after_in_lem k h = ap (λ (x : LiveVarInfo). x.after) (sides_at_lem k no_info h)

  -- term 3: the sets obey the rules, no sets that do have less, and the count of blocks taken is within the bound
  pub live_obeys : Obeys code before_in after_in
  live_obeys = record {
    after = λ k h. after_in_lem k h ∙ obeys.after k h ∙ ap unions (map_same before_at_lem before_in (successors code k) (λ o i. sym (before_in_lem o (succs_lt k o h i))));
    before = λ k h. before_in_lem k h ∙ obeys.before k h ∙ ap (execute (at code k)) (sym (after_in_lem k h));
  }

  -- the sets lie within all sets that have at least what the rules give
  pub live_within : (b a : ℕ → ℕ) → Post code b a → (k : ℕ) → k < length code → Sub (before_in k) (b k) × Sub (after_in k) (a k)
  live_within b a post k h = (
    subst (λ (x : ℕ). Sub x (b k)) (sym (before_in_lem k h)) (before_least b a post k h),
    subst (λ (x : ℕ). Sub x (a k)) (sym (after_in_lem k h)) (after_least b a post k h),
  )

  pub live_least : (b a : ℕ → ℕ) → Obeys code b a → (k : ℕ) → k < length code → Sub (before_in k) (b k) × Sub (after_in k) (a k)
  live_least b a ob = live_within b a (obeys_post code b a ob)
