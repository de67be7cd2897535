use Rattle.std.proofs.Common.{ℕ, ap, arith, get_or}
use Rattle.eliminate_unused_vars.specs.NameArrayLaws.{name_small}
use Rattle.eliminate_unused_vars.proofs.remap.NumberArrayNewNumbers.new_number.Goals as goal

pub overflow_cast-result : goal.overflow_cast-result
overflow_cast-result c =
    let a = c.args.self.now in
    omega (arith, c.from-2.ensures, ap (λ (y : ℕ). get_or a.numbers.now y 0) c.from.ensures, name_small a.named c.args.local c.requires)
