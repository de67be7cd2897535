use Rattle.std.proofs.Common.{arith, sym, ap, List, ◌++◌, ℕ, codes}
use Rattle.livevar_transform.specs.RewriteCallLaws.{asked}
use Rattle.listing.specs.WriterLaws.{text_next, text_as}
use Rattle.pages.specs.SectionLaws.{live_written}
use Rattle.pages.specs.Code.{code_text}
use Rattle.pages.specs.Page.{sections}
use Rattle.page.proofs.page.put_sections.Goals as goal

pub analyze-taken-requires : goal.analyze-taken-requires
analyze-taken-requires c = let sheet = c.args.sheet in omega (arith, sheet.size, sheet.few)

pub put_live_section-requires-clause-room : goal.put_live_section-requires-clause-room
put_live_section-requires-clause-room c = omega (arith, c.args.sheet.few, c.analyze-taken.auto.out)

pub put_rewritten_section-requires : goal.put_rewritten_section-requires
put_rewritten_section-requires c = (asked c.args.sheet.checked c.analyze-taken.ensures (omega (arith, c.args.sheet.few, c.analyze-taken.auto.out))).sets

pub invariant_of-put_rewritten_section : goal.invariant_of-put_rewritten_section
invariant_of-put_rewritten_section c = record { ready = (asked c.args.sheet.checked c.analyze-taken.ensures (omega (arith, c.args.sheet.few, c.analyze-taken.auto.out))).ready }

pub returns : goal.returns
unfolding sections
returns c =
    let live = live_written _ _ _ c.args.sheet.checked (sym c.args.sheet.size) c.analyze-taken.ensures in
    let code = text_as _ (ap (λ (s : List ℕ). codes "code\n" ++ code_text s) c.accepted.ensures.bytes) c.put_code_section.ensures in
    text_next _ _ _ (text_next _ _ _ (text_next _ _ _ code c.put_flow_section.ensures) (text_as _ (ap (λ (t : List ℕ). codes "\nlive\n" ++ t) live) c.put_live_section.ensures)) c.put_rewritten_section.ensures
