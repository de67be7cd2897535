use Rattle.std.proofs.Common.{◌≡◌, refl, get_or, arith}
use Rattle.base.specs.NumberingLaws.{give_old, give_room, give_new}
use Rattle.base.proofs.numbering.give_number.Goals as goal

pub returns-then-numbers-x-ne0 : goal.returns-then-numbers-x-ne0
returns-then-numbers-x-ne0 c =
    let p = c.requires in
    give_old _ _ _ _ _ p.numbered p.some p.inside (λ (e : get_or c.args.numbers.now c.args.x 0 ≡ 0). omega (arith, c.if-numbers-x-ne0.true))

pub overflow_cast-numbers : goal.overflow_cast-numbers
overflow_cast-numbers c =
    let p = c.requires in
    let none : get_or c.args.numbers.now c.args.x 0 ≡ 0 = omega (arith, c.if-numbers-x-ne0.false) in
    omega (arith, give_room _ _ _ _ _ p.numbered p.some p.inside none, p.few)

pub bounds-order-c : goal.bounds-order-c
bounds-order-c c =
    let p = c.requires in
    let none : get_or c.args.numbers.now c.args.x 0 ≡ 0 = omega (arith, c.if-numbers-x-ne0.false) in
    omega (arith, give_room _ _ _ _ _ p.numbered p.some p.inside none, p.room)

pub returns : goal.returns
returns c =
    let p = c.requires in
    let none : get_or c.args.numbers.now c.args.x 0 ≡ 0 = omega (arith, c.if-numbers-x-ne0.false) in
    give_new _ _ _ _ _ p.numbered p.some p.inside none _ _ (omega arith) refl p.room
