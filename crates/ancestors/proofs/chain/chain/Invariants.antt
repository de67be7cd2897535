use Rattle.ancestors.specs.Chains.{Chained, Firsts}
use Rattle.ancestors.proofs.chain.chain.Given as goal

abbrev pub invariant-loop-i : goal.invariant-loop-i
invariant-loop-i l = Firsts l.triples.numbers.now l.i l.first × Chained l.triples.numbers.now l.i l.next
