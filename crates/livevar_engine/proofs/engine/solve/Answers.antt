use Rattle.std.proofs.Common.{sym, ◌+◌, Bool, false, replicate, length-take-le, arith}
use Rattle.std.proofs.lemmas.List.{length-replicate}
use Rattle.base.specs.Sizes.{max_instructions}
use Rattle.livevar_analysis.specs.RunLaws.{few_nodes, start_input, solved_front}
use Rattle.livevar_engine.proofs.engine.solve.Goals as goal

pub slice_bounds-met-end : goal.slice_bounds-met-end
slice_bounds-met-end c = omega (arith, few_nodes c.requires.input)

pub slice_bounds-met-end-2 : goal.slice_bounds-met-end-2
slice_bounds-met-end-2 c = sym (length-take-le (c.args.m + 2) (replicate {A = Bool} (max_instructions + 2) false) (omega (arith, few_nodes c.requires.input, length-replicate {A = Bool} (max_instructions + 2) false)))

pub start_run-requires : goal.start_run-requires
start_run-requires c = let p = c.requires in record { code = p.code; locals = p.locals; input = start_input p.input }

pub returns : goal.returns
returns c code locals input = solved_front input _ _ _ c.start_run.auto.sets (c.start_run.ensures code locals (start_input input))
