use Rattle.std.proofs.Common.{arith, sym, ap, ◌∙◌}
use Rattle.listing.specs.Lines.{livelist}
use Rattle.listing.specs.WriterLaws.{text_as}
use Rattle.listing.specs.TextLaws.{livelist_live, livelist_refused}
use Rattle.live_text.proofs.livelist.put_text.Goals as goal

pub analyze-taken-requires : goal.analyze-taken-requires
analyze-taken-requires c = let sheet = c.in-Ok.sheet in omega (arith, sheet.size, sheet.few)

pub put_live-requires-clause-enough : goal.put_live-requires-clause-enough
put_live-requires-clause-enough c = let sheet = c.in-Ok.sheet in omega (arith, sheet.few, c.analyze-taken.auto.out)

pub returns-in-Err : goal.returns-in-Err
returns-in-Err c = text_as _ (livelist_refused _ _ c.in-Err.ensures.refused) c.put_refused.ensures

pub returns-in-Ok : goal.returns-in-Ok
returns-in-Ok c =
    let sheet = c.in-Ok.sheet in
    text_as _ (livelist_live sheet.bytes.now sheet.count _ _ _ sheet.checked.accepted (sym sheet.size) c.analyze-taken.ensures ∙ ap livelist c.in-Ok.ensures.accepted) c.put_live.ensures
