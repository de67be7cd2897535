use Rattle.std.proofs.Common.{ap, ◌∙◌, ℕ, ◌%◌, ◌^◌, one-mul, bit_or, get_or, set, shl_exact, arith}
use Rattle.dataflow_domains.specs.Mask.{union}
use Rattle.sheet_labels.proofs.labels.put_bit.Goals as goal

pub returns : goal.returns
unfolding union
returns c = let a = c.args in rw (← c.from-at.ensures) (ap (λ (x : ℕ). set a.seen.now c.from-at.result (bit_or (get_or a.seen.now c.from-at.result 0) x)) (shl_exact 1 (a.l % 64) 64 (omega arith) (omega arith) ∙ one-mul (2 ^ (a.l % 64))))
