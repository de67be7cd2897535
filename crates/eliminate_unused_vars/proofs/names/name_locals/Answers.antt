use Rattle.std.proofs.Common.{List, ℕ, ◌<◌, refl, ap, ◌∙◌, subst, arith, length, get_or}
use Rattle.base.specs.Sizes.{max_locals}
use Rattle.eliminate_unused_vars.specs.Names.{Named}
use Rattle.eliminate_unused_vars.specs.NameArrayLaws.{named_more, named_all, once_in}
use Rattle.eliminate_unused_vars.proofs.names.name_locals.Goals as goal

pub loop-i-preserved : goal.loop-i-preserved
loop-i-preserved c =
    let o = c.locals-locals.ensures.order in
    let l = c.loop-i in
    let size = ap (length {A = ℕ}) o in
    let x = c.from.result in
    let low : x < max_locals = omega (arith, c.from.ensures, ap (λ (xs : List ℕ). get_or xs l.i 0) o, c.locals-locals.ensures.below l.i (omega (arith, size, c.loop-i-test.true))) in
    named_more l.i x _ (once_in c.args.sheet.bytes.now _ (o ∙ c.of-names.ensures)) c.loop-i-test.true c.from.ensures (omega arith)
    (omega (arith, low, c.requires.numbers_long, l.auto.numbers)) (omega (arith, c.loop-i-test.true, size, c.locals-locals.ensures.few, c.requires.order_long, l.auto.order)) l.invariant

pub returns : goal.returns
returns c =
    let o = c.locals-locals.ensures.order in
    let l = c.loop-i in
    let n = length c.locals-locals.result.now in
    let size = ap (length {A = ℕ}) o in
    let below : (j : ℕ) → j < n → get_or c.locals-locals.result.now j 0 < max_locals = λ j h. omega (arith, ap (λ (xs : List ℕ). get_or xs j 0) o, c.locals-locals.ensures.below j (omega (arith, size, h))) in
    subst (λ (xs : List ℕ). Named xs l.numbers l.order n) (o ∙ c.of-names.ensures)
    (named_all l.i n (omega (arith, c.loop-i-test.false, l.auto.i-end)) refl (record { numbers_long = omega (arith, c.requires.numbers_long, l.auto.numbers); order_long = omega (arith, c.requires.order_long, l.auto.order) }) below (omega (arith, size, c.locals-locals.ensures.few)) l.invariant)
