use Rattle.std.proofs.Common.{refl, ◌≤◌, rules, arith}
use Rattle.base.specs.Sizes.{max_taken}
use Rattle.livevar_analysis.specs.RunLaws.{begun}
use Rattle.livevar_engine.proofs.engine.start_run.Goals as goal

pub run-requires : goal.run-requires
run-requires c =
    let p = c.requires in
    record { code = p.code; locals = p.locals; begun = begun p.code p.locals _ _ _ _ p.input _ c.new.ensures.head c.new.ensures.len _ refl refl c.put-cursor.ensures c.put-cursor.auto.q }

pub overflow_cast-result : goal.overflow_cast-result
overflow_cast-result c =
    let w = c.run.new.list in
    let low : w.cursor.head ≤ max_taken = omega (arith, c.run.ensures.fits, c.run.ensures.same.queue_long, c.put-cursor.auto.q, c.requires.input.list_long) in
    search rules

pub returns : goal.returns
returns c code locals input =
    let solved = c.run.ensures.solved code locals (begun code locals _ _ _ _ input _ c.new.ensures.head c.new.ensures.len _ refl refl c.put-cursor.ensures c.put-cursor.auto.q) in search rules
