use Rattle.std.proofs.Common.{sym, ap, ◌∙◌, ◌++◌, ℕ, ◌*◌, drop, arith}
use Rattle.base.specs.Sizes.{pair_bytes}
use Rattle.dataflow_domains.specs.Sets.{mask}
use Rattle.livevar_analysis.specs.Analysis.{live_bytes}
use Rattle.livevar_analysis.specs.Output.{infos_by}
use Rattle.livevar_analysis.specs.OutputLaws.{written_none, written_step, written_all}
use Rattle.livevar_output.proofs.output.write_info.Goals as goal

pub loop-k-init : goal.loop-k-init
loop-k-init c code ms e ruled known = written_none code ms c.args.out.now _ _ e

pub loop-k-preserved : goal.loop-k-preserved
loop-k-preserved c code ms e ruled known =
    let l = c.loop-k in
    let s = c.args in
    written_step code ms s.out.now s.rules.now s.keys.now s.sets.now _ (mask c.after_of-after.result) (mask c.apply-m.result) c.put_info.new.out e ruled known (omega arith) (omega arith) (omega arith) c.after_of-after.ensures c.apply-m.ensures c.put_info.ensures (l.invariant code ms e ruled known)

pub returns : goal.returns
returns c code ms e ruled known =
    let l = c.loop-k in
    let s = c.args in
    written_all code ms s.out.now (omega arith) (l.invariant code ms e ruled known) ∙ ap (λ (x : ℕ). live_bytes (infos_by code ms) ++ drop (pair_bytes * x) s.out.now) (sym e)
