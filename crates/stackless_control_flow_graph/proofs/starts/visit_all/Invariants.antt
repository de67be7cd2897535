use Rattle.sheet.specs.Code.{code_in}
use Rattle.stackless_control_flow_graph.specs.Arrays.{SuccessorsTo, Marking}
use Rattle.stackless_control_flow_graph.proofs.starts.visit_all.Given as goal

abbrev pub invariant-loop-k : goal.invariant-loop-k
invariant-loop-k l = SuccessorsTo (code_in l.sheet) l.k l.goes × Marking (code_in l.sheet) l.k l.marks
