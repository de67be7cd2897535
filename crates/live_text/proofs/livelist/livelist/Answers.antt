use Rattle.std.proofs.Common.{arith, sym, length}
use Rattle.base.specs.ReplyLaws.{refuses, done_result, done_output}
use Rattle.listing.specs.OutputLaws.{wrote_whole}
use Rattle.listing.specs.TextLaws.{livelist_short, livelist_refuses, livelist_done}
use Rattle.live_text.proofs.livelist.livelist.Goals as goal

pub returns-then-out-lt-TEXT_BYTES : goal.returns-then-out-lt-TEXT_BYTES
returns-then-out-lt-TEXT_BYTES c =
    let a = c.args in
    let r = refuses a.out.now (livelist_refuses a.s.now (length a.out.now) (omega arith)) in
    record { result = r.result; written = r.same }

pub overflow_cast-result : goal.overflow_cast-result
overflow_cast-result c =
    let a = c.args in
    let w = wrote_whole (omega (arith, livelist_short a.s.now)) c.put_livelist.ensures.written in
    omega (arith, w.1, livelist_short a.s.now)

pub returns : goal.returns
returns c =
    let a = c.args in
    let w = wrote_whole (omega (arith, livelist_short a.s.now)) c.put_livelist.ensures.written in
    let e = livelist_done a.s.now (length a.out.now) (omega arith) in
    record { result = done_result w.1 e; written = done_output a.out.now (sym w.1) e w.0 }
