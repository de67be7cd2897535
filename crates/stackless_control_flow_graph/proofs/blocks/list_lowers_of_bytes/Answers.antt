use Rattle.std.proofs.Common.{ap, ◌∙◌, length, List, ℕ}
use Rattle.stackless_control_flow_graph.specs.OffsetLaws.{marked_same}
use Rattle.stackless_control_flow_graph.proofs.blocks.list_lowers_of_bytes.Goals as goal

pub returns-clause-lowers : goal.returns-clause-lowers
returns-clause-lowers c = c.list_lowers.ensures.lowers ∙ marked_same _ _ _ c.read_marks.ensures

pub returns-clause-count : goal.returns-clause-count
returns-clause-count c = c.list_lowers.ensures.count ∙ ap (λ (l : List ℕ). length l) (marked_same _ _ _ c.read_marks.ensures)
