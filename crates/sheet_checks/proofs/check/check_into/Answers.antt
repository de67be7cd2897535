use Rattle.std.proofs.Common.{refl, ◌∙◌, sym, arith}
use Rattle.sheet.specs.FormLaws.{form_shaped}
use Rattle.sheet_checks.proofs.check.check_into.Goals as goal

pub count_of-requires : goal.count_of-requires
count_of-requires c = let h = form_shaped _ _ refl (sym c.in_ok-check_form.ensures) in omega (arith, h.size, h.some)

pub new-requires : goal.new-requires
new-requires c = let h = form_shaped _ _ (c.from.ensures ∙ c.count_of.ensures) (sym c.in_ok-check_form.ensures) in h
