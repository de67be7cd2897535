use Rattle.std.proofs.Common.{ap, ◌∙◌, codes}
use Rattle.listing.specs.Words.{said}
use Rattle.listing.specs.WriterLaws.{text_next, text_as}
use Rattle.pages.specs.Code.{counts}
use Rattle.pages.proofs.code.put_counts.Goals as goal

pub returns : goal.returns
unfolding counts
returns c =
    let one = text_as _ (ap (said (codes "locals ")) (c.from.ensures ∙ c.locals_of.ensures)) c.put_number.ensures in
    let two = text_as _ (ap (said (codes " user ")) (c.from-2.ensures ∙ c.user_locals_of.ensures)) c.put_number-2.ensures in
    let three = text_as _ (ap (said (codes " parameters ")) (c.from-3.ensures ∙ c.parameters_of.ensures)) c.put_number-3.ensures in
    text_next _ _ _ (text_next _ _ _ (text_next _ _ _ one two) three) c.put.ensures
