use Rattle.sheet.specs.Layout.{code_of}
use Rattle.livevar_analysis.specs.DecodeLaws.{RuledTo}
use Rattle.livevar_analysis.proofs.rules.decode_rules.Given as goal

abbrev pub invariant-loop-k : goal.invariant-loop-k
invariant-loop-k l = RuledTo (code_of l.sheet.bytes.now) l.k l.rules
