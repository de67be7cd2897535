use Rattle.std.proofs.Common.{arith, ◌∙◌}
use Rattle.borrow_analysis.specs.GraphLaws.{found_bad, length_fine}
use Rattle.borrow_analysis.proofs.graph.InputGraph.triples_bad.Goals as goal

pub returns-then-n-le-MAX_TRIPLES-clause-first : goal.returns-then-n-le-MAX_TRIPLES-clause-first
returns-then-n-le-MAX_TRIPLES-clause-first c =
    let g = c.args.self in
    c.first_bad.ensures.first ∙ found_bad g.nodes g.triples.now ∙ length_fine g.nodes g.triples.now (omega arith) (omega arith)
