use Rattle.std.proofs.Common.{sym, ◌∙◌, arith}
use Rattle.std.proofs.Math.Nat.{add-sub_cancel_left}
use Rattle.base.specs.SearchLaws.{first_is, holds_next}
use Rattle.sheet.specs.Layout.{block_at}
use Rattle.sheet_form.proofs.blocks.first_bad_block.Goals as goal

pub returns-then-not-block_ok-clause-first : goal.returns-then-not-block_ok-clause-first
unfolding block_at
returns-then-not-block_ok-clause-first c =
    sym (first_is _ 0 c.loop-b.b _ (omega arith) (omega (arith, c.loop-b-test.true)) (λ j _ h. c.loop-b.invariant j h) (rw add-sub_cancel_left at (sym c.block_ok.ensures ∙ c.if-not-block_ok.true)))

pub loop-b-preserved : goal.loop-b-preserved
unfolding block_at
loop-b-preserved c = λ j h. holds_next 0 c.loop-b.b _ (λ i _ l. c.loop-b.invariant i l) (rw add-sub_cancel_left at (sym c.block_ok.ensures ∙ c.if-not-block_ok.false)) j (omega arith) h
