use Rattle.std.proofs.Common.{refl, sym, subst, ℕ, ◌<◌}
use Rattle.dataflow_domains.specs.MemberLaws.{walk_falls}
use Rattle.dataflow_domains.specs.Sets.{mask}
use Rattle.ancestors.specs.ChainLaws.{firsts_none}
use Rattle.ancestors.proofs.WalkingLaws.{walks_none, walks_more, walks_all, written_as}
use Rattle.ancestors.proofs.collect_from.Goals as goal

pub chain-requires : goal.chain-requires
chain-requires c = record { few = c.requires.short; behind = rw c.count.ensures (firsts_none _ refl); room = c.requires.short }

pub loop-node-init : goal.loop-node-init
loop-node-init c = walks_none _ _ _ _ c.new.ensures c.new-2.ensures c.empty.ensures c.chain.ensures.firsts c.requires.small

pub loop-node-smaller : goal.loop-node-smaller
loop-node-smaller c = subst (λ (x : ℕ). x < mask c.loop-node.left) (sym c.in-Some.ensures.rest) (walk_falls _ _ c.in-Some.ensures.lowest.has)

pub loop-node-preserved : goal.loop-node-preserved
loop-node-preserved c =
    let came = c.collect_ancestors.ensures in
    walks_more _ _ _ _ c.loop-node.invariant c.in-Some.ensures.lowest c.in-Some.ensures.rest (came.going, came.rests, came.listed)

pub write-requires : goal.write-requires
write-requires c = (walks_all _ _ _ _ c.requires.inside c.requires.few c.loop-node.invariant c.in_default.ensures.none).1

pub returns : goal.returns
returns c =
    let all = walks_all _ _ _ _ c.requires.inside c.requires.few c.loop-node.invariant c.in_default.ensures.none in
    record { written = written_as all.0 c.write.ensures.written; fits = c.write.ensures.fits }
