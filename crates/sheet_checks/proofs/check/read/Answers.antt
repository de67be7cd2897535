use Rattle.std.proofs.Common.{refl, sym, ◌∙◌, arith}
use Rattle.sheet.specs.FormLaws.{accepted_shaped}
use Rattle.sheet_checks.proofs.check.read.Goals as goal

pub count_of-requires : goal.count_of-requires
count_of-requires c = let h = accepted_shaped _ _ refl (sym c.in_ok-check_into.ensures.checked) in omega (arith, h.size, h.some)

pub new-requires : goal.new-requires
new-requires c =
    let count = c.from.ensures ∙ c.count_of.ensures in
    let accepted = sym c.in_ok-check_into.ensures.checked in
    let shaped = accepted_shaped _ _ count accepted in
    record { accepted = accepted; count = count; resolved = c.in_ok-check_into.ensures.resolved; slots = omega (arith, shaped.few, c.requires) }
