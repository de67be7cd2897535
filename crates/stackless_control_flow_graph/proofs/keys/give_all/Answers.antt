use Rattle.std.proofs.Common.{ℕ, List, [], ◌∷◌, ◌++◌, ap, ◌∙◌, arith, length, get_or}
use Rattle.base.specs.Lists.{firsts}
use Rattle.stackless_control_flow_graph.specs.KeyLaws.{keys_begin, keys_more, keys_end}
use Rattle.stackless_control_flow_graph.specs.FlowLaws.{lower_in}
use Rattle.stackless_control_flow_graph.proofs.keys.give_all.Goals as goal

pub loop-lower-init : goal.loop-lower-init
loop-lower-init c = rw c.requires (keys_begin _)

pub next-requires : goal.next-requires
next-requires c = (lower_in _ _ _ c.lowers-lower-items.ensures.lowers c.loop-lower-test.true).inside

pub give_block-requires-clause-lower : goal.give_block-requires-clause-lower
give_block-requires-clause-lower c = omega (arith, (lower_in _ _ _ c.lowers-lower-items.ensures.lowers c.loop-lower-test.true).inside)

pub loop-lower-preserved : goal.loop-lower-preserved
loop-lower-preserved c =
    let i = c.loop-lower.lower-index in
    let is = c.lowers-lower-items.ensures.lowers in
    let l = get_or c.lowers-lower-items.result.now i 0 in
    keys_more _ i l (omega (arith, ap length is)) (ap (λ (xs : List ℕ). get_or xs i 0) is) c.loop-lower.invariant
    (c.give_block.ensures ∙ ap (λ (xs : List ℕ). firsts (c.loop-lower.keys) (xs ++ (l ∷ []))) c.next.ensures.next)

pub returns : goal.returns
returns c = keys_end _ _ (omega (arith, ap length c.lowers-lower-items.ensures.lowers)) c.loop-lower.invariant
