use Rattle.std.proofs.Common.{◌+◌, false, ◌≡◌, sym, ap, ◌∙◌, arith}
use Rattle.base.specs.Sizes.{max_instructions}
use Rattle.base.specs.ListLaws.{copies_at}
use Rattle.sheet.specs.Code.{code_in}
use Rattle.stackless_control_flow_graph.specs.Arrays.{marked_in}
use Rattle.stackless_control_flow_graph.specs.Blocks.{lowers}
use Rattle.stackless_control_flow_graph.specs.OffsetLaws.{marked_lowers}
use Rattle.stackless_control_flow_graph.proofs.blocks.find_blocks.Goals as goal

pub visit_all-requires-clause-unmarked : goal.visit_all-requires-clause-unmarked
visit_all-requires-clause-unmarked c = λ j. copies_at (max_instructions + 1) j false

pub returns-clause-found : goal.returns-clause-found
returns-clause-found c =
    let size = c.args.sheet.size in
    let v = c.visit_all in
    let l = c.list_lowers.ensures in
    let is : marked_in _ c.args.sheet.count ≡ lowers (code_in c.args.sheet) = ap (marked_in _) (sym size) ∙ marked_lowers _ _ v.ensures.marked in
    record {
      going = rw size v.ensures.successors;
      places = omega arith;
      lower = l.lowers ∙ is;
      upper = c.find_uppers.ensures _ size v.ensures.marked;
      offsets = omega arith;
    }
