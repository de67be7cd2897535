-- The live sets of a renumbered sheet are the old ones under the new numbers, no local of theirs is lost, and as many blocks are taken. Assumes nothing.
use Rattle.std.specs.Prelude.{◌≡◌, refl, true, ℕ, ◌+◌, get_or, length, List, map}
use Rattle.std.proofs.Common.{sym, ap, ap₂, ◌∙◌, add_comm, arith, subst}
use mathlib.Core.List.{Memᴰ}
use Rattle.base.specs.Refusals.{Accepted}
use Rattle.base.specs.Sizes.{taken_bound}
use Rattle.dataflow_domains.specs.Mask.{holds}
use Rattle.dataflow_analysis.specs.Lattice.{masks}
use Rattle.dataflow_analysis.specs.Worklist.{State, begin}
use Rattle.dataflow_analysis.specs.QueueLaws.{run_longer}
use Rattle.dataflow_analysis.specs.RunMapLaws.{image_of}
use Rattle.stackless_bytecode.specs.declared.Bytecode.{Bytecode}
use Rattle.sheet.specs.Layout.{locals_of, user_locals_of, code_of}
use Rattle.sheet.specs.Checks.{check_sheet}
use Rattle.sheet.specs.CheckLaws.{code_sound}
use Rattle.stackless_control_flow_graph.specs.Blocks.{keyed}
use Rattle.stackless_control_flow_graph.specs.Backward.{nexts_of, leads_to}
use Rattle.stackless_control_flow_graph.specs.FlowLaws.{keys_blocks}
use Rattle.livevar_analysis.specs.Analysis.{out_of, state_after, analyze_function, LiveVarInfo, no_info, analyze}
use Rattle.livevar_analysis.specs.LiveCall.{bound_of}
use Rattle.livevar_analysis.specs.Output.{infos_by}
use Rattle.livevar_analysis.specs.OutputLaws.{infos_live}
use Rattle.livevar_analysis.specs.Term3Laws.{term3}
use Rattle.eliminate_unused_vars.specs.Remap.{remap_set}
use Rattle.eliminate_unused_vars.specs.Renumber.{staying_in, renumbered_code}
use Rattle.eliminate_unused_vars.specs.Renumbered.{live_of, remap_info}
use Rattle.eliminate_unused_vars.specs.StayingLaws.{stay_once}
use Rattle.eliminate_unused_vars.specs.RemapLaws.{code_remaps}
use Rattle.eliminate_unused_vars.specs.RemapRunLaws.{state_image, state_stays, infos_image, InfoStays, infos_stay}

-- t has the live sets of s under the new numbers
pub record RemappedLive (s t : List ℕ) : Type 0 where
  pub live : (live_of t).info ≡ map (remap_info (staying_in s)) (live_of s).info
  pub before : (k x : ℕ) → holds (get_or (live_of s).info k no_info).before x ≡ true → Memᴰ x (staying_in s)
  pub after : (k x : ℕ) → holds (get_or (live_of s).info k no_info).after x ≡ true → Memᴰ x (staying_in s)
  pub taken : (live_of t).taken ≡ (live_of s).taken

-- ---- what live gives, by the state that its run ends in

-- the fuel of a sheet's run
abbrev fuel_of : List ℕ → ℕ
fuel_of s = taken_bound (length (keyed (code_of s))) (locals_of s)

abbrev end_of : List ℕ → State masks
end_of s = analyze_function (code_of s) (keyed (code_of s)) (locals_of s)

-- more fuel ends in the same state
same_end : (s : List ℕ) → check_sheet s ≡ Accepted → (more : ℕ) → state_after (code_of s) (keyed (code_of s)) (fuel_of s + more) ≡ end_of s
unfolding analyze_function
same_end s e more =
    let code = code_of s in
    let bound : fuel_of s ≡ bound_of s = ap (λ (b : ℕ). taken_bound b (locals_of s)) (keys_blocks code (code_sound s e)) in
    run_longer (leads_to (nexts_of code (keyed code))) (out_of code (keyed code)) (fuel_of s) more (begin (2 + length (keyed code)) 1) ((term3 s e).taken.empty (fuel_of s) (omega (arith, bound)))

taken_is : (s : List ℕ) → (live_of s).taken ≡ (end_of s).taken
unfolding analyze
taken_is s = refl

-- ---- an accepted sheet

module _ (s : List ℕ) (e : check_sheet s ≡ Accepted) where
  -- its sets are of locals that stay
  live_stays : (k : ℕ) → InfoStays (staying_in s) (get_or (live_of s).info k no_info)
  unfolding analyze_function
  live_stays k =
      let once = stay_once (user_locals_of s) (code_of s) in
      subst (λ (l : List LiveVarInfo). InfoStays (staying_in s) (get_or l k no_info)) (infos_live (code_of s) (locals_of s)) (infos_stay (staying_in s) once (code_of s) (code_remaps s e) (end_of s).sets (state_stays (staying_in s) once (code_of s) (code_remaps s e) (fuel_of s)).each k)

-- ---- the theorem

-- both runs, with the fuel of both
end_image : (s t : List ℕ) → check_sheet s ≡ Accepted → check_sheet t ≡ Accepted → code_of t ≡ renumbered_code s → end_of t ≡ image_of masks masks (remap_set (staying_in s)) (end_of s)
end_image s t e e' same =
    sym (same_end t e' (fuel_of s))
    ∙ ap₂ (λ (c : List Bytecode) (fuel : ℕ). state_after c (keyed c) fuel) same (add_comm (fuel_of t) (fuel_of s))
    ∙ state_image (staying_in s) (stay_once (user_locals_of s) (code_of s)) (code_of s) (code_remaps s e) (fuel_of s + fuel_of t)
    ∙ ap (image_of masks masks (remap_set (staying_in s))) (same_end s e (fuel_of t))

pub live_remapped : (s t : List ℕ) → check_sheet s ≡ Accepted → check_sheet t ≡ Accepted → code_of t ≡ renumbered_code s → RemappedLive s t
unfolding image_of
live_remapped s t e e' same =
    let end = end_image s t e e' same in
    record {
      live = sym (infos_live (code_of t) (locals_of t)) ∙ ap₂ infos_by same (ap (λ (st : State masks). st.sets) end) ∙ infos_image (staying_in s) (stay_once (user_locals_of s) (code_of s)) (code_of s) (code_remaps s e) (end_of s).sets ∙ ap (map (remap_info (staying_in s))) (infos_live (code_of s) (locals_of s));
      before = λ k x. (live_stays s e k).before.each x;
      after = λ k x. (live_stays s e k).after.each x;
      taken = taken_is t ∙ ap (λ (st : State masks). st.taken) end ∙ sym (taken_is s);
    }
