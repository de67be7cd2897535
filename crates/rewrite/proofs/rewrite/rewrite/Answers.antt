use Rattle.std.proofs.Common.{arith}
use Rattle.livevar_transform.specs.RewriteCallLaws.{rewrite_done}
use Rattle.rewrite.proofs.rewrite.rewrite.Goals as goal

pub returns : goal.returns
returns c =
    let s = c.in_ok-sheet.sheet in
    let is = c.in_ok-sheet.ensures.accepted in
    let done = rewrite_done s.bytes.now c.args.out.now _ _ (record { each = λ i. rw (is) (c.type_inv.bytes i).fits }) s.checked.accepted (omega (arith, c.if-out-lt-MAX_BYTES.false)) c.analyze_and_transform.ensures in
    rw (← is) (record { result = done.result; written = done.written; accepted = done.accepted })
