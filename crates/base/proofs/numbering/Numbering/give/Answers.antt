use Rattle.std.proofs.Common.{arith}
use Rattle.base.specs.NumberingLaws.{numbered_numbers, numbers_numbered}
use Rattle.base.proofs.numbering.Numbering.give.Goals as goal

pub overflow_add-give_number : goal.overflow_add-give_number
overflow_add-give_number g c = omega (arith, c.self.invariant.few)

pub give_number-self-inside-requires-clause-numbered :
    goal.give_number-self-inside-requires-clause-numbered
give_number-self-inside-requires-clause-numbered g c = numbered_numbers c.self.invariant

pub invariant_of-self : goal.invariant_of-self
invariant_of-self g c =
    let t = c.give_number-self-inside in
    numbers_numbered t.ensures.given (omega arith) (omega arith) c.self.invariant.few
