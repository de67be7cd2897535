use Rattle.std.proofs.Common.{sym, arith, None}
use Rattle.sheet.specs.Checks.{place_ok}
use Rattle.sheet.specs.ByBlocks.{found_on, none_on, finds_first}
use Rattle.sheet_form.specs.BlockSearch.{place_handed}
use Rattle.sheet_form.proofs.records.first_bad_record.Goals as goal

pub returns-in-Some-clause-first : goal.returns-in-Some-clause-first
returns-in-Some-clause-first c =
    found_on _ _ (place_ok c.args.s.now) _ (λ k l h. sym (place_handed c.args.s.now c.args.n c.loop-b.b k c.requires.count l h)) c.loop-b.invariant _ c.in-Some.k (omega (arith, c.loop-b-test.true)) c.in-Some.ensures

pub loop-b-preserved : goal.loop-b-preserved
loop-b-preserved c =
    λ j h. none_on _ _ (place_ok c.args.s.now) _ (λ k l h. sym (place_handed c.args.s.now c.args.n c.loop-b.b k c.requires.count l h)) c.loop-b.invariant c.in_default.ensures j (omega arith)

pub returns-clause-first : goal.returns-clause-first
returns-clause-first c = finds_first _ _ None (λ j _ h. c.loop-b.invariant j (omega arith))
