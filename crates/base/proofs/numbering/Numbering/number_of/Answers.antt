use Rattle.std.proofs.Common.{arith}
use Rattle.base.specs.NumberingLaws.{known_is, known_below}
use Rattle.base.proofs.numbering.Numbering.number_of.Goals as goal

pub overflow_sub-result : goal.overflow_sub-result
overflow_sub-result g c = omega (arith, known_is c.self.invariant c.self.view_is c.requires c.from.ensures)

pub returns-clause-number : goal.returns-clause-number
returns-clause-number g c = omega (arith, known_is c.self.invariant c.self.view_is c.requires c.from.ensures)

pub returns-clause-below : goal.returns-clause-below
returns-clause-below g c =
    let i = c.self.invariant in
    omega (arith, known_is i c.self.view_is c.requires c.from.ensures, known_below i c.self.view_is c.requires c.from.ensures)
