use Rattle.std.proofs.Common.{arith}
use Rattle.sheet.specs.FormLaws.{accepted_shaped}
use Rattle.sheet.specs.Shaped.{code_size}
use Rattle.sheet.proofs.accepted.ResolvedSheet.new.Goals as goal

pub invariant_of-result : goal.invariant_of-result
invariant_of-result c =
    let shaped = accepted_shaped _ _ c.requires.count c.requires.accepted in
    record { checked = c.requires; shaped = shaped; size = code_size shaped; few = shaped.few; fits = record { each = λ i. omega (arith, c.type_inv.bytes i) } }
