use Rattle.livevar_analysis.specs.LiveCallLaws.{written_least, written_counted}
use Rattle.live.proofs.analysis.live.Goals as goal

pub returns-clause-least : goal.returns-clause-least
returns-clause-least c =
    let sheet = c.in_ok-sheet.sheet in
    rw (← c.in_ok-sheet.ensures.accepted) (written_least sheet.bytes.now sheet.checked.accepted _ _ _ c.analyze.ensures)

pub returns-clause-counted : goal.returns-clause-counted
returns-clause-counted c =
    let sheet = c.in_ok-sheet.sheet in
    rw (← c.in_ok-sheet.ensures.accepted) (written_counted sheet.bytes.now sheet.checked.accepted _ _ _ c.analyze.ensures)
