use Rattle.std.proofs.Common.{rules, arith}
use Rattle.dataflow_analysis.specs.Receipt.{Ended}
use Rattle.dataflow_analysis.specs.ReceiptLaws.{same_then}
use Rattle.livevar_analysis.specs.RunLaws.{held_begin, held_out, held_hands, held_head, held_more, held_done}
use Rattle.livevar_engine.proofs.engine.run.Goals as goal

pub loop-k-init : goal.loop-k-init
loop-k-init c = held_begin _ _ c.requires

pub take-requires : goal.take-requires
take-requires c = c.loop-k.invariant.list_fits

pub out_of-m-requires : goal.out_of-m-requires
out_of-m-requires c = held_out _ _ c.requires _ c.loop-k.invariant _ _ c.in-Some.ensures.some

pub hand_key-requires : goal.hand_key-requires
hand_key-requires c = held_hands _ _ c.requires _ c.loop-k.invariant _ _ c.in-Some.ensures.some _ c.out_of-m.ensures

pub loop-k-preserved : goal.loop-k-preserved
loop-k-preserved c = held_more _ _ c.requires _ c.loop-k.invariant _ _ c.in-Some.ensures.some _ c.out_of-m.ensures _ c.hand_key.ensures

pub loop-k-smaller : goal.loop-k-smaller
loop-k-smaller c =
    let w₁ = c.take.new.self in
    let w₂ = c.hand_key.new.list in
    let more = held_more _ _ c.requires _ c.loop-k.invariant _ w₁ c.in-Some.ensures.some _ c.out_of-m.ensures w₂ c.hand_key.ensures in
    omega (arith, held_head _ _ c.requires _ c.loop-k.invariant _ w₁ c.in-Some.ensures.some _ c.out_of-m.ensures w₂ c.hand_key.ensures, more.same.queue_long, more.list_fits)

pub returns : goal.returns
returns c =
    let ended : Ended c.loop-k.list c.take.new.self = search rules in
    let held = c.loop-k.invariant in
    record { same = same_then held.same ended.same; fits = omega (arith, held.list_fits, ended.same_end, ended.same.queue_long); solved = λ code locals begun. held_done _ _ c.requires _ _ c.loop-k.invariant ended code locals begun }
