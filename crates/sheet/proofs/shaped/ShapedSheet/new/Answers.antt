use Rattle.std.proofs.Common.{arith}
use Rattle.sheet.specs.Shaped.{code_size}
use Rattle.sheet.proofs.shaped.ShapedSheet.new.Goals as goal

pub invariant_of-result : goal.invariant_of-result
invariant_of-result c = record { shaped = c.requires; size = code_size c.requires; few = c.requires.few; fits = record { each = λ i. omega (arith, c.type_inv.bytes i) } }
