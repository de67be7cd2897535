use Rattle.std.proofs.Common.{ℕ, List, Option, sym, ap, ◌∙◌, arith}
use Rattle.base.specs.Numbering.{number_of}
use Rattle.stackless_control_flow_graph.specs.SpreadLaws.{key_or, spread_begin, spread_more}
use Rattle.stackless_control_flow_graph.proofs.keys.spread_keys.Goals as goal
use Rattle.stackless_control_flow_graph.proofs.keys.spread_keys.Goals.{in-Some, in_default}

pub loop-k-init : goal.loop-k-init
loop-k-init g c = λ code sound size is. spread_begin code _

pub loop-k-preserved : goal.loop-k-preserved
loop-k-preserved g c =
    let l = c.loop-k in
    λ code sound size is.
    let found = ap (λ (xs : List ℕ). number_of 2 xs l.k) (sym is) ∙ sym c.number.ensures in
    spread_more code sound _ _ l.last _ (omega (arith, size))
    (elim c.match-number.branch [
      | in-Some w ↦ w.last-is ∙ ap (λ (n : Option ℕ). key_or n l.last) (sym (found ∙ w.in-Some.is))
      | in_default w ↦ w.last-is ∙ ap (λ (n : Option ℕ). key_or n l.last) (sym (found ∙ w.in_default.is))
    ]) (l.invariant code sound size is) (omega arith)

pub returns : goal.returns
returns g c = λ code sound size is. record { long = omega (arith, size); each = λ k h. (c.loop-k.invariant code sound size is).each k (omega (arith, size, h)) }
