use Rattle.std.proofs.Common.{◌≡◌, ℕ, ◌+◌, ◌-◌, ◌≤◌, ◌<◌, length, get_or, arith}
use Rattle.base.specs.ListLaws.{length_tab, get_d_tab}
use Rattle.livevar_analysis.specs.EngineLaws.{hand_none, hand_set, hand_room, hand_more, hand_all}
use Rattle.livevar_engine.proofs.engine.hand_all.Goals as goal
use Rattle.livevar_engine.proofs.engine.hand_all.Invariants.{blocks}

more : (n k : ℕ) → 2 ≤ k → k < n → k - 2 < length (blocks n)
more n k h l = omega (arith, length_tab (n - 2) 2 (λ b. b))

block_at : (n k : ℕ) → 2 ≤ k → k < n → k ≡ get_or (blocks n) (k - 2) 0
block_at n k h l = let inside : k - 2 < n - 2 = omega arith in omega (arith, get_d_tab (n - 2) 2 (k - 2) (λ b. b) 0 inside)

pub loop-k-init : goal.loop-k-init
loop-k-init c = hand_none _ _ _ c.requires.hands

pub receive-requires-clause-set_inside : goal.receive-requires-clause-set_inside
receive-requires-clause-set_inside c =
    let l = c.loop-k in
    hand_set _ _ _ c.requires.hands _ _ l.invariant (more _ l.k l.auto.k c.loop-k-test.true) _ (block_at _ l.k l.auto.k c.loop-k-test.true)

pub receive-requires-clause-room : goal.receive-requires-clause-room
receive-requires-clause-room c =
    let l = c.loop-k in
    hand_room _ _ _ c.requires.hands _ _ l.invariant (more _ l.k l.auto.k c.loop-k-test.true) _ (block_at _ l.k l.auto.k c.loop-k-test.true)

pub loop-k-preserved : goal.loop-k-preserved
loop-k-preserved c =
    let l = c.loop-k in
    let next : l.k - 2 + 1 ≡ l.k + 1 - 2 = omega (arith, l.auto.k) in
    rw (← next) (hand_more _ _ _ c.requires.hands _ _ l.invariant (more _ l.k l.auto.k c.loop-k-test.true) _ (block_at _ l.k l.auto.k c.loop-k-test.true) _ c.receive.ensures)

pub returns : goal.returns
returns c =
    let n = length c.args.list.now.met.now in
    hand_all _ _ _ c.requires.hands _ _ c.loop-k.invariant (omega (arith, length_tab (n - 2) 2 (λ b. b)))
