use Rattle.std.proofs.Common.{arith, rules}
use Rattle.sheet.specs.Layout.{code_of}
use Rattle.stackless_bytecode.specs.Kinds.{label_of}
use Rattle.livevar_transform.specs.HighestLaws.{attr_of, attr_raised, highest_turn, highest_done, free_label, free_attr}
use Rattle.livevar_transform.proofs.plan.first_numbers.Goals as goal

pub loop-k-preserved : goal.loop-k-preserved
loop-k-preserved c =
    let s = c.args.sheet in
    let code = code_of s.bytes.now in
    let r = c.instruction-r.ensures in
    (highest_turn label_of code _ _ _ _ _ (omega (arith, s.size)) r c.label_over-label.ensures c.loop-k.invariant.0, highest_turn attr_of code _ _ _ _ _ (omega (arith, s.size)) r (attr_raised _ _ c.instruction-r.result c.attr_over-attr.ensures) c.loop-k.invariant.1, search rules, search rules)

pub overflow_add-result : goal.overflow_add-result
overflow_add-result c = omega (arith, c.from.ensures, c.loop-k.invariant.2)

pub overflow_add-result-2 : goal.overflow_add-result-2
overflow_add-result-2 c = omega (arith, c.from-2.ensures, c.loop-k.invariant.3)

pub returns : goal.returns
returns c =
    let s = c.args.sheet in
    let code = code_of s.bytes.now in
    let l = c.loop-k in
    record {
      label = free_label _ _ _ (highest_done label_of code l.k _ _ (omega (arith, s.size)) l.invariant.0) c.from.ensures;
      attr = free_attr _ _ _ (highest_done attr_of code l.k _ _ (omega (arith, s.size)) l.invariant.1) c.from-2.ensures;
      low = record { label = omega (arith, c.from.ensures, l.invariant.2); attr = omega (arith, c.from-2.ensures, l.invariant.3) };
    }
