use Rattle.std.proofs.Common.{arith}
use Rattle.stackless_control_flow_graph.specs.NextLaws.{one_below, two_below}
use Rattle.stackless_control_flow_graph.proofs.keys.keys_in.Goals as goal

pub bounds-keys-from : goal.bounds-keys-from
bounds-keys-from c = omega (arith, one_below _ _ _ c.in-One.is c.requires)

pub bounds-keys-from-in-Two : goal.bounds-keys-from-in-Two
bounds-keys-from-in-Two c = omega (arith, two_below _ _ _ _ c.in-Two.is c.requires)

pub bounds-keys-from-in-Two-2 : goal.bounds-keys-from-in-Two-2
bounds-keys-from-in-Two-2 c = omega (arith, two_below _ _ _ _ c.in-Two.is c.requires)
