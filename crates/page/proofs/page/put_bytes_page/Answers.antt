use Rattle.std.proofs.Common.{ap, ◌∙◌}
use Rattle.listing.specs.WriterLaws.{text_as}
use Rattle.pages.specs.Page.{page}
use Rattle.pages.specs.PageLaws.{page_accepted, page_refused}
use Rattle.page.proofs.page.put_bytes_page.Goals as goal

pub returns-in-Ok : goal.returns-in-Ok
returns-in-Ok c = let sheet = c.in-Ok.sheet in text_as _ (page_accepted _ sheet.checked.accepted ∙ ap page c.in-Ok.ensures.accepted) c.put_sections.ensures

pub returns-in-Err : goal.returns-in-Err
returns-in-Err c = text_as _ (page_refused _ _ c.in-Err.ensures.refused) c.put_refused.ensures
