use Rattle.std.proofs.Common.{ap, ◌∙◌}
use Rattle.stackless_bytecode.specs.Successors.{successors}
use Rattle.sheet.specs.Code.{code_in}
use Rattle.stackless_control_flow_graph.proofs.blocks.Blocks.next.Goals as goal

pub returns-clause-next : goal.returns-clause-next
returns-clause-next c = c.successors.ensures.successors ∙ ap (successors (code_in c.args.self.sheet)) c.upper.ensures.upper
