use Rattle.std.proofs.Common.{sym, ap, ◌∙◌, ◌-◌, take, drop, arith}
use Rattle.livevar_analysis.specs.Analysis.{execute_all}
use Rattle.livevar_analysis.specs.EngineLaws.{execute_more, execute_none}
use Rattle.livevar_analysis.proofs.execute.execute_block.Goals as goal

pub loop-k-preserved : goal.loop-k-preserved
loop-k-preserved c code ruled h =
    c.loop-k.invariant code ruled h ∙ execute_more code _ _ _ c.loop-k-test.true (omega arith)
    ∙ ap (execute_all (take (c.loop-k.k - 1 - c.args.lower) (drop c.args.lower code))) (sym (c.apply-set.ensures ∙ ruled.each _ _ (omega arith)))

pub returns : goal.returns
returns c code ruled h = sym (c.loop-k.invariant code ruled h ∙ execute_none code _ _ _ c.loop-k-test.false)
