use Rattle.std.proofs.Common.{arith, ap, ◌∙◌}
use Rattle.listing.specs.WriterLaws.{text_next, text_as}
use Rattle.pages.specs.Code.{code_text}
use Rattle.pages.specs.CodeLaws.{heading_there}
use Rattle.pages.specs.PageLaws.{rewrite_refused, rewrite_written}
use Rattle.page.proofs.sections.put_rewritten_section.Goals as goal

pub count_of-requires : goal.count_of-requires
count_of-requires c =
    let sheet = c.args.live.sheet in
    omega (arith, heading_there _ (rewrite_written sheet.bytes.now _ _ _ sheet.checked.accepted c.rewrite_sheet.ensures _ sheet.fits c.in-Ok.is).again)

pub new-requires-clause-accepted : goal.new-requires-clause-accepted
new-requires-clause-accepted c =
    let sheet = c.args.live.sheet in
    (rewrite_written sheet.bytes.now _ _ _ sheet.checked.accepted c.rewrite_sheet.ensures _ sheet.fits c.in-Ok.is).again

pub returns-in-Ok : goal.returns-in-Ok
returns-in-Ok c =
    let sheet = c.args.live.sheet in
    let new = rewrite_written sheet.bytes.now _ _ _ sheet.checked.accepted c.rewrite_sheet.ensures _ sheet.fits c.in-Ok.is in
    text_next _ _ _ c.put.ensures (text_as _ (ap code_text c.new.ensures.bytes ∙ new.text) c.put_code.ensures)

pub returns-in-Err : goal.returns-in-Err
returns-in-Err c =
    let sheet = c.args.live.sheet in
    text_next _ _ _ c.put.ensures (text_as _ (rewrite_refused sheet.bytes.now _ _ _ sheet.checked.accepted c.rewrite_sheet.ensures _ c.in-Err.is) c.put_refused.ensures)
