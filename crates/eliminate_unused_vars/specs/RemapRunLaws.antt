-- The run of live over code under the new numbers is the run over the old code, with its sets under them. Assumes nothing.
use Rattle.std.specs.Prelude.{◌≡◌, get_or, length, refl, List, [], ◌∷◌, map, ℕ, zero, suc, ◌+◌, ◌-◌, ◌<◌, take, drop}
use Rattle.std.proofs.Common.{sym, ap, ap₂, subst, ◌∙◌, zero-add, arith}
use mathlib.Core.List.{Memᴰ}
use Rattle.std.proofs.Math.ListN.{get_or-eq_default}
use Rattle.std.proofs.lemmas.List.{length-map, take-map, drop-map}
use Rattle.base.specs.Lists.{tab, Distinct}
use Rattle.base.specs.ListLaws.{in_take, in_drop, get_d_in, get_d_tab, length_tab}
use Rattle.base.specs.JoinLaws.{by_lt}
use Rattle.dataflow_analysis.specs.Lattice.{masks}
use Rattle.dataflow_analysis.specs.Worklist.{State, begin, run}
use Rattle.dataflow_analysis.specs.RunMapLaws.{Image, image_of, AllGood, set_image, run_image, run_good, begin_image, begin_good}
use Rattle.stackless_bytecode.specs.declared.Bytecode.{Bytecode}
use Rattle.stackless_bytecode.specs.Kinds.{nop, at}
use Rattle.stackless_control_flow_graph.specs.Blocks.{lower_of, upper_of, keyed, key_of}
use Rattle.stackless_control_flow_graph.specs.Backward.{nexts_of, leads_to}
use Rattle.stackless_control_flow_graph.specs.AlikeLaws.{at_alike, lower_alike, upper_alike, keyed_alike, nexts_of_alike}
use Rattle.livevar_analysis.specs.Live.{execute}
use Rattle.livevar_analysis.specs.Analysis.{execute_all, rest_of, out_of, state_after, LiveVarInfo, no_info, info_of}
use Rattle.livevar_analysis.specs.Output.{info_by, infos_by}
use Rattle.eliminate_unused_vars.specs.Remap.{remap, remap_set}
use Rattle.eliminate_unused_vars.specs.Renumbered.{remap_info}
use Rattle.eliminate_unused_vars.specs.MoreListLaws.{tab_map}
use Rattle.eliminate_unused_vars.specs.RemapSetLaws.{Stays, stays_none, stays_union, remap_none, remap_union, remap_eqb}
use Rattle.eliminate_unused_vars.specs.Remaps.{Remaps}
use Rattle.eliminate_unused_vars.specs.RemapLaws.{keeps_flow}
use Rattle.eliminate_unused_vars.specs.RemapExecuteLaws.{execute_remapped, execute_stays}

-- ---- the sets of an instruction

-- no set has a local that does not stay
pub record InfoStays (stay : List ℕ) (x : LiveVarInfo) : Type 0 where
  pub before : Stays stay x.before
  pub after : Stays stay x.after

module _ (stay : List ℕ) (once : Distinct stay) (code : List Bytecode) (ok : (r : Bytecode) → Memᴰ r code → Remaps stay r) where
  abbrev new : List Bytecode
  new = map (remap stay) code

  -- ---- a block's instructions

  all_image : (rs : List Bytecode) → ((r : Bytecode) → Memᴰ r rs → Remaps stay r) → (m : ℕ) → execute_all (map (remap stay) rs) (remap_set stay m) ≡ remap_set stay (execute_all rs m)
  unfolding execute_all
  all_image [] h m = refl
  all_image (r ∷ rs) h m =
      ap (execute (remap stay r)) (all_image rs (λ q i. h q (Memᴰ.tail i)) m) ∙ execute_remapped stay r (h r (Memᴰ.head refl)) once (execute_all rs m)

  all_stays : (rs : List Bytecode) → ((r : Bytecode) → Memᴰ r rs → Remaps stay r) → (m : ℕ) → Stays stay m → Stays stay (execute_all rs m)
  unfolding execute_all
  all_stays [] h m w = w
  all_stays (r ∷ rs) h m w = execute_stays stay r (h r (Memᴰ.head refl)) (execute_all rs m) (all_stays rs (λ q i. h q (Memᴰ.tail i)) m w)

  rest_image : (k : ℕ) → rest_of new k ≡ map (remap stay) (rest_of code k)
  unfolding rest_of
  rest_image k =
      ap₂ (λ (u : ℕ) (rs : List Bytecode). take (suc u - k) rs) (upper_alike (keeps_flow stay) code k) (drop-map (remap stay) k code)
      ∙ take-map (remap stay) (suc (upper_of code k) - k) (drop k code)

  rest_ok : (k : ℕ) (r : Bytecode) → Memᴰ r (rest_of code k) → Remaps stay r
  unfolding rest_of
  rest_ok k r i = ok r (in_drop k code (in_take (suc (upper_of code k) - k) (drop k code) i))

  -- ---- what a key hands on

  out_image : (ks : List ℕ) (k m : ℕ) → remap_set stay (out_of code ks k m) ≡ out_of new ks k (remap_set stay m)
  unfolding out_of
  out_image ks zero m = refl
  out_image ks (suc zero) m = refl
  out_image ks (suc (suc k)) m =
      sym (ap (λ (rs : List Bytecode). execute_all rs (remap_set stay m)) (rest_image (get_or ks k 0)) ∙ all_image (rest_of code (get_or ks k 0)) (rest_ok (get_or ks k 0)) m)

  out_stays : (ks : List ℕ) (k m : ℕ) → Stays stay m → Stays stay (out_of code ks k m)
  unfolding out_of
  out_stays ks zero m w = w
  out_stays ks (suc zero) m w = w
  out_stays ks (suc (suc k)) m w = all_stays (rest_of code (get_or ks k 0)) (rest_ok (get_or ks k 0)) m w

  image : (ks : List ℕ) → Image masks masks (remap_set stay) (Stays stay) (out_of code ks) (out_of new ks)
  image ks = record {
    good_none = stays_none stay;
    good_join = stays_union stay;
    good_out = out_stays ks;
    none_is = remap_none stay;
    join_is = remap_union stay;
    same_is = remap_eqb stay;
    out_is = λ k m w. out_image ks k m;
  }

  -- ---- the run

  pub state_image : (fuel : ℕ) → state_after new (keyed new) fuel ≡ image_of masks masks (remap_set stay) (state_after code (keyed code) fuel)
  state_image fuel =
      let ks = keyed code in
      ap (λ (l : List ℕ). state_after new l fuel) (keyed_alike (keeps_flow stay) code)
      ∙ ap₂ (λ (nexts : List (List ℕ)) (st : State masks). run (leads_to nexts) (out_of new ks) fuel st) (nexts_of_alike (keeps_flow stay) code ks) (sym (begin_image (image ks) (2 + length ks) 1))
      ∙ run_image (image ks) (leads_to (nexts_of code ks)) fuel (begin (2 + length ks) 1) (begin_good (image ks) (2 + length ks) 1)

  pub state_stays : (fuel : ℕ) → AllGood masks (Stays stay) (state_after code (keyed code) fuel)
  state_stays fuel =
      let ks = keyed code in
      run_good (image ks) (leads_to (nexts_of code ks)) fuel (begin (2 + length ks) 1) (begin_good (image ks) (2 + length ks) 1)

  -- ---- the sets of each instruction

  info_image : (k m : ℕ) → k < length code → info_of new k (remap_set stay m) ≡ remap_info stay (info_of code k m)
  unfolding info_of
  info_image k m h =
      let behind = drop 1 (rest_of code k) in
      let a : execute_all (drop 1 (rest_of new k)) (remap_set stay m) ≡ remap_set stay (execute_all behind m) = ap (λ (rs : List Bytecode). execute_all rs (remap_set stay m)) (ap (drop 1) (rest_image k) ∙ drop-map (remap stay) 1 (rest_of code k)) ∙ all_image behind (λ r i. rest_ok k r (in_drop 1 (rest_of code k) i)) m in
      let b : execute (at new k) (execute_all (drop 1 (rest_of new k)) (remap_set stay m)) ≡ remap_set stay (execute (at code k) (execute_all behind m)) = ap₂ execute (at_alike (keeps_flow stay) code k) a ∙ execute_remapped stay (at code k) (ok (at code k) (get_d_in code k nop h)) once (execute_all behind m) in
      ap₂ (λ (x y : ℕ). record { before = x; after = y }) b a

  -- from the sets after the blocks, by key
  pub infos_image : (ms : List ℕ) → infos_by new (map (remap_set stay) ms) ≡ map (remap_info stay) (infos_by code ms)
  unfolding infos_by info_by
  infos_image ms =
      let ks = keyed code in
      ap (λ (n : ℕ). tab n 0 (info_by new (map (remap_set stay) ms))) (length-map code (remap stay))
      ∙ tab_map (remap_info stay) (length code) 0 (info_by new (map (remap_set stay) ms)) (info_by code ms)
      (λ k h. ap₂ (λ (l : List ℕ) (o : ℕ). info_of new k (get_or (map (remap_set stay) ms) (key_of l o) 0)) (keyed_alike (keeps_flow stay) code) (lower_alike (keeps_flow stay) code k)
      ∙ ap (info_of new k) (set_image (image ks) ms (key_of ks (lower_of code k))) ∙ info_image k (get_or ms (key_of ks (lower_of code k)) 0) (omega arith))

  info_stays : (k m : ℕ) → k < length code → Stays stay m → InfoStays stay (info_of code k m)
  unfolding info_of
  info_stays k m h w =
      let a = all_stays (drop 1 (rest_of code k)) (λ r i. rest_ok k r (in_drop 1 (rest_of code k) i)) m w in
      record { before = execute_stays stay (at code k) (ok (at code k) (get_d_in code k nop h)) _ a; after = a }

  pub infos_stay : (ms : List ℕ) → ((k : ℕ) → Stays stay (get_or ms k 0)) → (k : ℕ) → InfoStays stay (get_or (infos_by code ms) k no_info)
  unfolding infos_by info_by
  infos_stay ms all k =
      by_lt k (length code)
      (λ h. subst (InfoStays stay) (sym (get_d_tab (length code) 0 k (info_by code ms) no_info h ∙ ap (info_by code ms) (zero-add k))) (info_stays k _ h (all (key_of (keyed code) (lower_of code k)))))
      (λ h. subst (InfoStays stay) (sym (get_or-eq_default (tab (length code) 0 (info_by code ms)) no_info {n = k} (omega (arith, length_tab (length code) 0 (info_by code ms))))) (record { before = stays_none stay; after = stays_none stay }))
