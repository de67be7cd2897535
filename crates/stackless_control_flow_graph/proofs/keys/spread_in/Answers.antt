use Rattle.std.proofs.Common.{◌∙◌, refl, arith, get_or-set_other}
use Rattle.stackless_control_flow_graph.specs.SpreadLaws.{key_there, key_none, spread_begin, spread_more}
use Rattle.stackless_control_flow_graph.proofs.keys.spread_in.Goals as goal
use Rattle.stackless_control_flow_graph.proofs.keys.spread_in.Goals.{then-keys-k-ne0, else-keys-k-ne0}

pub loop-k-init : goal.loop-k-init
loop-k-init c = record { rest = λ j h. refl; front = λ code sound size keyed. spread_begin code _ }

pub loop-k-preserved : goal.loop-k-preserved
loop-k-preserved c =
    let l = c.loop-k in
    record {
      rest = λ j h. get_or-set_other l.keys l.k j _ 0 (λ e. omega arith) ∙ l.invariant.rest j (omega arith);
      front = λ code sound size keyed.
          let own = l.invariant.rest l.k (omega arith) ∙ keyed l.k (omega (arith, size)) in
          spread_more code sound _ _ l.last _ (omega (arith, size))
          (elim c.if-keys-k-ne0.branch [
            | then-keys-k-ne0 w ↦ w.last-is ∙ key_there _ l.k _ l.last own w.if-keys-k-ne0.true
            | else-keys-k-ne0 w ↦ w.last-is ∙ key_none _ l.k _ l.last own w.if-keys-k-ne0.false
          ]) (l.invariant.front code sound size keyed) (omega arith);
    }

pub returns : goal.returns
returns c = λ code sound size keyed. record { long = omega (arith, size); each = λ k h. (c.loop-k.invariant.front code sound size keyed).each k (omega (arith, size, h)) }
