use Rattle.std.proofs.Common.{arith}
use Rattle.livevar_transform.specs.RewriteCallLaws.{asked}
use Rattle.rewrite.proofs.rewrite.analyze_and_transform.Goals as goal

pub rewrite_sheet-requires-clause-sets : goal.rewrite_sheet-requires-clause-sets
rewrite_sheet-requires-clause-sets c = let s = c.args.sheet in (asked s.checked c.analyze.ensures (omega (arith, s.few, c.analyze.auto.out))).sets

pub invariant_of-rewrite_sheet : goal.invariant_of-rewrite_sheet
invariant_of-rewrite_sheet c = let s = c.args.sheet in record { ready = (asked s.checked c.analyze.ensures (omega (arith, s.few, c.analyze.auto.out))).ready }
