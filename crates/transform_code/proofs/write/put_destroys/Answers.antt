use Rattle.std.proofs.Common.{refl, sym, ap, subst, ◌∙◌, ◌<◌, ℕ, rules, arith}
use Rattle.dataflow_domains.specs.Sets.{mask}
use Rattle.dataflow_domains.specs.SetLaws.{array, mask_small}
use Rattle.dataflow_domains.specs.MemberLaws.{walk_falls}
use Rattle.sheet.specs.Layout.{encode}
use Rattle.livevar_transform.specs.NewCodeLaws.{walk_none, walk_place, walk_next, walk_done}
use Rattle.transform_code.proofs.write.put_destroys.Goals as goal

pub loop-local-init : goal.loop-local-init
loop-local-init c = (walk_none _ _ _ (mask_small c.args.lost (search (rules, array))), refl)

pub overflow_add-first : goal.overflow_add-first
overflow_add-first c = omega (arith, c.requires.ids, walk_place c.loop-local.invariant.0 c.in-Some.ensures.lowest refl (mask_small c.args.lost (search (rules, array))))

pub overflow_cast-first : goal.overflow_cast-first
overflow_cast-first c = omega (arith, c.requires.ids, walk_place c.loop-local.invariant.0 c.in-Some.ensures.lowest refl (mask_small c.args.lost (search (rules, array))))

pub slice_bounds-encode-end : goal.slice_bounds-encode-end
slice_bounds-encode-end c =
    omega (arith, c.requires.room, c.loop-local.invariant.1, walk_place c.loop-local.invariant.0 c.in-Some.ensures.lowest refl (mask_small c.args.lost (search (rules, array))))

pub loop-local-smaller : goal.loop-local-smaller
loop-local-smaller c = let low = c.in-Some.ensures in subst (λ (x : ℕ). x < mask c.loop-local.left) (sym low.rest) (walk_falls _ _ low.lowest.has)

pub loop-local-preserved : goal.loop-local-preserved
loop-local-preserved c =
    let low = c.in-Some.ensures in
    (walk_next c.loop-local.invariant.0 _ _ _ low.lowest low.rest (c.encode.ensures ∙ ap encode c.destroy.ensures), search rules)

pub returns : goal.returns
returns c = walk_done c.loop-local.invariant.0 c.in_default.ensures.none
