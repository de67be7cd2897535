use Rattle.std.proofs.Common.{refl, ◌∙◌, arith, rules}
use Rattle.base.specs.SearchLaws.{holds_next}
use Rattle.sheet_form.specs.BlockSearch.{place_in, no_kind}
use Rattle.sheet_form.proofs.records.first_bad_in.Goals as goal

pub returns-then-kind-ge-KINDS : goal.returns-then-kind-ge-KINDS
returns-then-kind-ge-KINDS c =
    (omega arith, c.loop-k-test.true, c.loop-k.invariant, no_kind c.args.p.now c.args.from c.args.n c.loop-k.k _ _ refl refl (search rules))

pub returns-then-not-place_ok : goal.returns-then-not-place_ok
returns-then-not-place_ok c =
    (omega arith, c.loop-k-test.true, c.loop-k.invariant, place_in c.args.p.now c.args.from c.args.n c.loop-k.k _ _ refl c.place_ok.ensures ∙ c.if-not-place_ok.true)

pub loop-k-preserved : goal.loop-k-preserved
loop-k-preserved c = holds_next c.args.from c.loop-k.k _ c.loop-k.invariant (place_in c.args.p.now c.args.from c.args.n c.loop-k.k _ _ refl c.place_ok.ensures ∙ c.if-not-place_ok.false)
