use Rattle.std.proofs.Common.{sym, ap, ◌∙◌, ◌≡◌, ℕ, ◌^◌, ◌/◌, ◌%◌, eqb, get_or, arith, rules}
use Rattle.base.specs.Sizes.{set_words}
use Rattle.dataflow_domains.specs.Mask.{holds, bit}
use lib.Bits.{and_mask}
use Rattle.dataflow_domains.specs.Sets.{mask}
use Rattle.dataflow_domains.specs.SetLaws.{Array, array}
use Rattle.dataflow_domains.specs.WordLaws.{mask_holds}
use Rattle.dataflow_domains.proofs.LiveVarState.has.Goals as goal

pub returns : goal.returns
unfolding mask holds bit
returns c = let a = c.args in
    let known : Array a.self.livevars = search (rules, array) in
    let at : c.from-at.result % set_words ≡ a.local / 64 = omega (arith, c.from-at.ensures) in
    rw at (ap (λ (x : ℕ). eqb x 1) (and_mask (get_or a.self.livevars (a.local / 64) 0 / 2 ^ (a.local % 64)) 1)
    ∙ sym (mask_holds 64 (omega arith) a.self.livevars a.local known.words))
