use Rattle.std.proofs.Common.{List, ℕ, take, sym, ◌∙◌, subst}
use Rattle.eliminate_unused_vars.specs.Renumbered.{Renumbered}
use Rattle.eliminate_unused_vars.specs.RenumberCallLaws.{written_renumbered}
use Rattle.renumber.proofs.renumber.renumber.Goals as goal

pub returns-clause-renumbered : goal.returns-clause-renumbered
returns-clause-renumbered c =
    let a = c.accepted-accepted in
    let w = c.eliminate_unused_vars in
    subst (λ (s : List ℕ). Renumbered s (take w.result w.new.out)) (a.ensures.bytes ∙ c.in_ok-read.ensures.accepted)
    (written_renumbered _ _ _ _ a.result.fits a.result.accepted (sym c.in_ok-check_open.ensures.checked) w.ensures)
