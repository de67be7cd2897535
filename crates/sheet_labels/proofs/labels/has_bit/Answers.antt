use Rattle.std.proofs.Common.{ap, ℕ, ◌/◌, ◌%◌, ◌^◌, eqb, get_or}
use lib.Bits.{and_mask}
use Rattle.dataflow_domains.specs.Mask.{bit, holds}
use Rattle.sheet_labels.proofs.labels.has_bit.Goals as goal

pub returns : goal.returns
unfolding holds bit
returns c = let a = c.args in rw (← c.from-at.ensures) (ap (λ (x : ℕ). eqb x 1) (and_mask (get_or a.seen.now c.from-at.result 0 / 2 ^ (a.l % 64)) 1))
