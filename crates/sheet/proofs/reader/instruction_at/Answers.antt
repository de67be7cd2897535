use Rattle.std.proofs.Common.{arith, ◌≡◌, ap₂, ◌∙◌, List, ℕ, ◌+◌, ◌-◌, take, drop}
use Rattle.base.specs.Sizes.{record_bytes}
use Rattle.stackless_bytecode.specs.declared.Bytecode.{Bytecode}
use Rattle.sheet.specs.Layout.{record_start, decode, instruction_at}
use Rattle.sheet.proofs.reader.instruction_at.Goals as goal

part_is : (s : List ℕ) (k a : ℕ) (r : Bytecode) → a ≡ record_start k → r ≡ decode (take (a + record_bytes - a) (drop a s)) → r ≡ instruction_at s k
unfolding instruction_at
part_is s k a r start e =
    let size : a + record_bytes - a ≡ record_bytes = omega arith in
    e ∙ ap₂ (λ (n x : ℕ). decode (take n (drop x s))) size start

pub returns : goal.returns
returns c = part_is _ _ _ _ c.record_start-at.ensures c.decode.ensures
