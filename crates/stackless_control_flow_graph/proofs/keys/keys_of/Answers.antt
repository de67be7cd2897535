use Rattle.std.proofs.Common.{rules, arith}
use Rattle.stackless_control_flow_graph.specs.NextLaws.{one_below, two_below}
use Rattle.stackless_control_flow_graph.proofs.keys.keys_of.Goals as goal

pub number-requires : goal.number-requires
number-requires g c = (search rules, omega (arith, one_below _ _ _ c.in-One.is c.requires))

pub number-requires-in-Two : goal.number-requires-in-Two
number-requires-in-Two g c = (search rules, omega (arith, two_below _ _ _ _ c.in-Two.is c.requires))

pub number-requires-in-Two-2 : goal.number-requires-in-Two-2
number-requires-in-Two-2 g c = (search rules, omega (arith, two_below _ _ _ _ c.in-Two.is c.requires))
