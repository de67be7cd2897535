use Rattle.std.proofs.Common.{arith, refl, sym, ◌∙◌, subst, ℕ}
use Rattle.ancestors.specs.Chains.{Firsts}
use Rattle.ancestors.specs.ChainLaws.{chain_none, chain_on, chain_all}
use Rattle.ancestors.proofs.chain.chain.Goals as goal

pub loop-i-init : goal.loop-i-init
loop-i-init c = (subst (λ (i : ℕ). Firsts c.args.triples.numbers.now i c.args.first.now) (sym c.count-n.ensures) c.requires.behind, chain_none _ _ c.count-n.ensures c.requires.room)

pub loop-i-preserved : goal.loop-i-preserved
loop-i-preserved c =
    let l = c.loop-i in
    let on = chain_on _ (omega arith) (omega arith) l.invariant.0 l.invariant.1 (omega arith) (omega arith) (c.from-child.ensures ∙ c.child_at.ensures.value) refl in
    (on.0, on.1)

pub returns : goal.returns
returns c = let all = chain_all _ (omega arith) c.loop-i.invariant.0 c.loop-i.invariant.1 in record { firsts = all.0; chained = all.1 }
