-- The live sets are those of the sheet.
use Rattle.std.proofs.Common.{arith}
use Rattle.livevar_transform.specs.RewriteCallLaws.{asked}
use Rattle.answerbook.proofs.print_sections.Goals as goal

pub analyze-taken-requires : goal.analyze-taken-requires
analyze-taken-requires g c = let sheet = c.args.sheet in omega (arith, sheet.size, sheet.few)

pub put_live_section-requires-clause-room : goal.put_live_section-requires-clause-room
put_live_section-requires-clause-room g c = omega (arith, c.args.sheet.few, c.analyze-taken.auto.out)

pub put_rewritten_section-requires : goal.put_rewritten_section-requires
put_rewritten_section-requires g c = (asked c.args.sheet.checked c.analyze-taken.ensures (omega (arith, c.args.sheet.few, c.analyze-taken.auto.out))).sets

pub invariant_of-put_rewritten_section : goal.invariant_of-put_rewritten_section
invariant_of-put_rewritten_section g c = record { ready = (asked c.args.sheet.checked c.analyze-taken.ensures (omega (arith, c.args.sheet.few, c.analyze-taken.auto.out))).ready }
