use Rattle.std.proofs.Common.{◌≡◌, ◌-◌}
use Rattle.dataflow_domains.specs.Sets.{mask}
use Rattle.borrow_analysis.specs.Graph.{triples_of}
use Rattle.borrow_analysis.specs.Borrows.{upward}
use Rattle.borrow_info.proofs.upward.above.Given as goal

abbrev pub invariant-loop : goal.invariant-loop
invariant-loop l = upward l.times (triples_of l.triples.numbers.now) (mask l.initial.reached) ≡ upward (l.times - l.counter) (triples_of l.triples.numbers.now) (mask l.reached)
