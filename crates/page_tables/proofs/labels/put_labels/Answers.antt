use Rattle.std.proofs.Common.{arith}
use Rattle.std.proofs.lemmas.Grind.{common_steps}
use Rattle.listing.specs.WriterLaws.{texts, text_next, text_as}
use Rattle.pages.specs.UnnamedLaws.{label_put, label_skip, unnamed_all}
use Rattle.page_tables.proofs.labels.put_labels.Goals as goal

pub loop-k-preserved : goal.loop-k-preserved
loop-k-preserved c =
    let put = label_put _ _ c.requires c.loop-k.k (omega (arith, c.args.sheet.size)) _ c.instruction-r.ensures in
    let skip = label_skip _ _ c.requires c.loop-k.k (omega (arith, c.args.sheet.size)) _ c.instruction-r.ensures in
    grind (arith, common_steps, texts)

pub returns : goal.returns
returns c = text_next _ _ _ (text_next _ _ _ c.put.ensures (text_as _ (unnamed_all _ c.loop-k.k (omega (arith, c.args.sheet.size))) c.loop-k.invariant)) c.put-2.ensures
