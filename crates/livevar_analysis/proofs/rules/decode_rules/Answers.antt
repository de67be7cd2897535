use Rattle.std.proofs.Common.{sym, ap, ◌∙◌, subst, ◌<◌, rules, arith}
use Rattle.sheet.specs.Layout.{count_of, code_of}
use Rattle.stackless_bytecode.specs.declared.Bytecode.{Bytecode}
use Rattle.livevar_analysis.specs.Live.{execute}
use Rattle.livevar_analysis.specs.Rules.{InRange}
use Rattle.livevar_analysis.specs.DecodeLaws.{ruled_none, ruled_all, ruled_more}
use Rattle.livevar_analysis.specs.InputLaws.{code_at, in_range}
use Rattle.livevar_analysis.proofs.rules.decode_rules.Goals as goal

pub loop-k-init : goal.loop-k-init
loop-k-init c = ruled_none _ _

pub rule_of-requires : goal.rule_of-requires
rule_of-requires c =
    let sheet = c.args.sheet in
    let inside : c.loop-k.k < count_of sheet.bytes.now = omega (arith, sheet.shaped.count) in
    subst InRange (sym (c.instruction.ensures ∙ code_at sheet.bytes.now sheet.accepted c.loop-k.k inside)) (in_range sheet.bytes.now sheet.accepted c.loop-k.k inside)

pub loop-k-preserved : goal.loop-k-preserved
loop-k-preserved c =
    let l = c.loop-k in
    ruled_more (code_of c.args.sheet.bytes.now) l.k l.rules c.rule_of.result (search rules) (λ m. c.rule_of.ensures m ∙ ap (λ (r : Bytecode). execute r m) c.instruction.ensures) l.invariant

pub returns : goal.returns
returns c = ruled_all _ _ _ (omega (arith, c.args.sheet.size)) c.loop-k.invariant
