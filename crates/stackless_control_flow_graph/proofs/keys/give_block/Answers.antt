use Rattle.std.proofs.Common.{◌∙◌}
use Rattle.base.specs.Lists.{firsts}
use Rattle.stackless_control_flow_graph.proofs.keys.give_block.Goals as goal
use Rattle.stackless_control_flow_graph.proofs.keys.give_block.Goals.{in-None, in-One, in-Two}

pub returns : goal.returns
unfolding firsts
returns c =
    c.give-2.ensures
    ∙ elim c.match-next.branch [
      | in-None w ↦ rw (c.from-2.ensures, w.keys-is, w.in-None.is)
      | in-One w ↦ rw (c.from-2.ensures, w.keys-is, w.give.ensures, w.from.ensures, w.in-One.is)
      | in-Two w ↦ rw (c.from-2.ensures, w.keys-is, w.give-in-Two-2.ensures, w.give-in-Two.ensures, w.from-in-Two.ensures, w.from-in-Two-2.ensures, w.in-Two.is)
    ]
