use Rattle.std.proofs.Common.{arith, sym, length}
use Rattle.base.specs.ReplyLaws.{refuses, done_result, done_output}
use Rattle.listing.specs.OutputLaws.{wrote_whole}
use Rattle.pages.specs.PageLaws.{page_short_lent, page_done}
use Rattle.pages.specs.PageSizeLaws.{page_short}
use Rattle.page.proofs.page.page.Goals as goal

pub returns-then-out-lt-PAGE_BYTES : goal.returns-then-out-lt-PAGE_BYTES
returns-then-out-lt-PAGE_BYTES c =
    let a = c.args in
    let r = refuses a.out.now (page_short_lent a.s.now (length a.out.now) (omega arith)) in
    record { result = r.result; written = r.same }

pub overflow_cast-result : goal.overflow_cast-result
overflow_cast-result c =
    let short = page_short c.args.s.now (record { each = λ i. (c.type_inv.s i).fits }) in
    let w = wrote_whole (omega (arith, short)) c.put_page.ensures.written in
    omega (arith, w.1, short)

pub returns : goal.returns
returns c =
    let a = c.args in
    let w = wrote_whole (omega (arith, page_short a.s.now (record { each = λ i. (c.type_inv.s i).fits }))) c.put_page.ensures.written in
    let e = page_done a.s.now (length a.out.now) (omega arith) in
    record { result = done_result w.1 e; written = done_output a.out.now (sym w.1) e w.0 }
