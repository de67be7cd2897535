use Rattle.std.proofs.Common.{refl, ℕ, ◌<◌, ◌^◌, arith}
use lib.Count.{count_trailing_zeros}
use Rattle.dataflow_domains.specs.MemberLaws.{trailing_lowest, lowest_lt}
use Rattle.dataflow_domains.proofs.lowest_in.Goals as goal

below : (n : ℕ) → 0 < n → n < 2 ^ 64 → count_trailing_zeros 64 n < 64
below n p h = lowest_lt n (count_trailing_zeros 64 n) 64 (trailing_lowest 64 n p h) h

pub returns : goal.returns
returns c = let w = c.args.word in
    record { place = refl; lowest = trailing_lowest 64 w (omega arith) (omega arith); below = below w (omega arith) (omega arith) }
