-- What an instruction under the new numbers does to a set under them: what the instruction did to the old one. Assumes nothing.
use Rattle.std.specs.Prelude.{◌≡◌, Bool, true, false, ◌||◌, ℕ, ◌^◌, ◌≤◌, refl, cond, List, eqb, get_or}
use Rattle.std.proofs.Common.{sym, ap, ap₂, ◌∙◌, inl, inr, arith, eqb-true, get_or-take}
use mathlib.Core.List.{Memᴰ}
use Rattle.base.specs.Lists.{Distinct}
use Rattle.dataflow_domains.specs.Mask.{holds, union, minus, set_of}
use Rattle.stackless_bytecode.specs.declared.Bytecode.{Bytecode}
use Rattle.stackless_bytecode.specs.Kinds.{Assign, Call, Ret, Load, Branch, Abort, Prop, dsts_of, srcs_of}
use Rattle.livevar_analysis.specs.Live.{assigned, called, execute}
use Rattle.livevar_analysis.specs.DecodeLaws.{flag_asked}
use Rattle.eliminate_unused_vars.specs.Remap.{new_number, remap, remap_set}
use Rattle.eliminate_unused_vars.specs.MoreListLaws.{take_in, map_take_at}
use Rattle.eliminate_unused_vars.specs.RemapSetLaws.{Stays, stays_union, stays_minus, stays_set_of, remap_of, remap_none, remap_union, remap_minus, remap_single, remap_set_of}
use Rattle.eliminate_unused_vars.specs.Remaps.{Remaps}
use Rattle.eliminate_unused_vars.specs.RemapLaws.{dst_stays, src_stays, abort_stays, new_dsts, new_srcs}

module _ (stay : List ℕ) (r : Bytecode) (ok : Remaps stay r) where
  -- the first destination
  module _ (some : 1 ≤ r.ndst) where
    first_stays : Memᴰ (get_or r.dsts 0 0) stay
    unfolding dsts_of
    first_stays = dst_stays stay r ok _ (take_in r.ndst 0 r.dsts (omega arith) (omega (arith, ok.dsts_few, ok.dsts_long)))

    first_remapped : get_or (remap stay r).dsts 0 0 ≡ new_number stay (get_or r.dsts 0 0)
    unfolding dsts_of remap
    first_remapped =
        sym (get_or-take r.ndst (remap stay r).dsts 0 0 (omega arith)) ∙ ap (λ (l : List ℕ). get_or l 0 0) (new_dsts stay r ok)
        ∙ map_take_at r.ndst 0 r.dsts (omega arith) (omega (arith, ok.dsts_few, ok.dsts_long)) (new_number stay)

  -- ---- its locals stay in the set

  cond_stays : (b : Bool) {x y : ℕ} → Stays stay x → Stays stay y → Stays stay (cond b x y)
  cond_stays true p q = p
  cond_stays false p q = q

  pub execute_stays : (m : ℕ) → Stays stay m → Stays stay (execute r m)
  unfolding execute assigned called
  execute_stays m w =
      let ss : Stays stay (set_of (srcs_of r)) = stays_set_of stay (srcs_of r) (src_stays stay r ok) in
      cond_stays (eqb r.kind Assign) (cond_stays (holds m (get_or r.dsts 0 0)) (stays_union stay _ _ ss (stays_minus stay m _ w)) w)
      (cond_stays (eqb r.kind Call) (stays_minus stay _ _ (stays_union stay _ _ ss (stays_minus stay m _ w)))
      (cond_stays (eqb r.kind Load) (stays_minus stay m _ w)
      (cond_stays (eqb r.kind Ret || eqb r.kind Branch || eqb r.kind Abort || eqb r.kind Prop) (stays_union stay _ _ ss w) w)))

  -- ---- what it does under the new numbers

  cond_image : (b : Bool) (x y : ℕ) {x' y' : ℕ} → (b ≡ true → x' ≡ remap_set stay x) → y' ≡ remap_set stay y → cond b x' y' ≡ remap_set stay (cond b x y)
  cond_image true x y p q = p refl
  cond_image false x y p q = q

  module _ (once : Distinct stay) (m : ℕ) where
    abbrev new : ℕ
    new = remap_set stay m

    abbrev sources : ℕ
    sources = set_of (srcs_of r)

    sources_image : set_of (srcs_of (remap stay r)) ≡ remap_set stay sources
    sources_image = ap set_of (new_srcs stay r ok) ∙ sym (remap_set_of stay once (srcs_of r) (src_stays stay r ok))

    -- taken out of the set
    out_image : (a a' : ℕ) → a' ≡ remap_set stay a → minus new a' ≡ remap_set stay (minus m a)
    out_image a a' e = ap (minus new) e ∙ sym (remap_minus stay m a)

    -- and put in
    in_image : (a a' : ℕ) → a' ≡ remap_set stay a → union (set_of (srcs_of (remap stay r))) a' ≡ remap_set stay (union sources a)
    in_image a a' e = ap₂ union sources_image e ∙ sym (remap_union stay sources a)

    one_image : 1 ≤ r.ndst → 2 ^ get_or (remap stay r).dsts 0 0 ≡ remap_set stay (2 ^ get_or r.dsts 0 0)
    one_image some = ap (λ (x : ℕ). 2 ^ x) (first_remapped some) ∙ sym (remap_single stay once (get_or r.dsts 0 0) (first_stays some))

    assigned_image : 1 ≤ r.ndst → assigned (get_or (remap stay r).dsts 0 0) (set_of (srcs_of (remap stay r))) new ≡ remap_set stay (assigned (get_or r.dsts 0 0) sources m)
    unfolding assigned
    assigned_image some =
        ap (λ (b : Bool). cond b (union (set_of (srcs_of (remap stay r))) (minus new (2 ^ get_or (remap stay r).dsts 0 0))) new)
        (ap (holds new) (first_remapped some) ∙ remap_of stay m (get_or r.dsts 0 0) (first_stays some))
        ∙ cond_image (holds m (get_or r.dsts 0 0)) _ _ (λ t. in_image _ _ (out_image _ _ (one_image some))) refl

    gone_image : r.kind ≡ Call → cond (eqb r.flag 1) (2 ^ (remap stay r).abort) 0 ≡ remap_set stay (cond (eqb r.flag 1) (2 ^ r.abort) 0)
    unfolding remap
    gone_image k =
        cond_image (eqb r.flag 1) _ _
        (λ f. let t = flag_asked r k (eqb-true r.flag 1 f) in
        ap (λ (b : Bool). 2 ^ cond b (new_number stay r.abort) r.abort) t ∙ sym (remap_single stay once r.abort (abort_stays stay r ok t))) (sym (remap_none stay))

    called_image : r.kind ≡ Call → called (set_of (dsts_of (remap stay r))) (set_of (srcs_of (remap stay r))) (cond (eqb r.flag 1) (2 ^ (remap stay r).abort) 0) new
        ≡ remap_set stay (called (set_of (dsts_of r)) sources (cond (eqb r.flag 1) (2 ^ r.abort) 0) m)
    unfolding called
    called_image k =
        ap₂ minus (in_image _ _ (out_image (set_of (dsts_of r)) _ (ap set_of (new_dsts stay r ok) ∙ sym (remap_set_of stay once (dsts_of r) (dst_stays stay r ok))))) (gone_image k)
        ∙ sym (remap_minus stay _ _)

    pub execute_remapped : execute (remap stay r) (remap_set stay m) ≡ remap_set stay (execute r m)
    unfolding execute remap
    execute_remapped =
        cond_image (eqb r.kind Assign) _ _ (λ t. assigned_image (ok.first (inl (eqb-true r.kind Assign t))))
        (cond_image (eqb r.kind Call) _ _ (λ t. called_image (eqb-true r.kind Call t))
        (cond_image (eqb r.kind Load) _ _ (λ t. out_image _ _ (one_image (ok.first (inr (eqb-true r.kind Load t)))))
        (cond_image (eqb r.kind Ret || eqb r.kind Branch || eqb r.kind Abort || eqb r.kind Prop) _ _ (λ t. in_image m new refl) refl)))
