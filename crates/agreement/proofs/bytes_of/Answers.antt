use Rattle.agreement.specs.PairLaws.{pairs_more, pairs_all}
use Rattle.std.proofs.Common.{rules, arith, ap, ◌∙◌, List, ℕ, get_or}
use Rattle.agreement.proofs.bytes_of.Goals as goal

pub loop-i-preserved : goal.loop-i-preserved
loop-i-preserved c =
    let l = c.loop-i in
    let byte = λ (k : ℕ). ap (λ (b : List ℕ). get_or b k 0) c.to_le_bytes.ensures in
    pairs_more c.args.out.now c.args.table.now l.out l.i _ _ (search rules) c.requires l.invariant (byte 0) (byte 1 ∙ omega (arith, c.type_inv.table l.i))

pub returns : goal.returns
returns c = pairs_all c.args.out.now c.args.table.now c.loop-i.out c.loop-i.i (omega arith) c.loop-i.invariant
