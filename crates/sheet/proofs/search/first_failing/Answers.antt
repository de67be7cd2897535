use Rattle.std.proofs.Common.{◌≡◌, ℕ, List, ◌+◌, ◌*◌, ◌≤◌, ◌<◌, ◌-◌, sym, ap, ◌∙◌, subst, arith, rules, length, min, None}
use Rattle.std.specs.Int.{div_ceil}
use Rattle.base.specs.Sizes.{block_bytes, block_records}
use Rattle.stackless_bytecode.specs.Kinds.{at}
use Rattle.sheet.specs.Layout.{record_blocks, decode, code_of}
use Rattle.sheet.specs.Shaped.{Shaped, Lists, lists_fit, code_at}
use Rattle.sheet.specs.InBlock.{record_in, handed}
use Rattle.sheet.specs.ByBlocks.{block_record, found_on, none_on, finds_first}
use Rattle.sheet.proofs.search.first_failing.Goals as goal

-- the records of a turn are those of the code
module _ {s : List ℕ} {n : ℕ} (shaped : Shaped s n) (b m blocks : ℕ) (turn : b < blocks) (all : blocks ≡ div_ceil n block_records) (few : m ≡ min (n - block_records * b) block_records) where
  here : (k : ℕ) → block_records * b ≤ k → k < block_records * b + m → decode (record_in (handed s b) (block_records * b) k) ≡ at (code_of s) k
  here k l h = block_record shaped b k l (omega (arith, few)) (omega (arith, few, turn, all))

  lists_here : (k : ℕ) → block_records * b ≤ k → k < block_records * b + m → Lists (decode (record_in (handed s b) (block_records * b) k))
  lists_here k l h =
      let inside : k < n = omega (arith, few, turn, all) in
      subst Lists (sym (here k l h ∙ code_at shaped k inside)) (lists_fit _ (shaped.each k inside))

pub slice_bounds-first_in-end : goal.slice_bounds-first_in-end
unfolding record_blocks
slice_bounds-first_in-end g c =
    let inside : block_bytes * (1 + c.loop-b.b) + block_bytes ≤ length c.args.sheet.bytes.now = omega (arith, c.args.sheet.shaped.size, c.loop-b-test.true, c.div_ceil-b-end.ensures) in
    let h = inside in search rules

pub first_in-requires-clause-lists : goal.first_in-requires-clause-lists
first_in-requires-clause-lists g c = lists_here c.args.sheet.shaped c.loop-b.b c.min-m.result _ c.loop-b-test.true c.div_ceil-b-end.ensures c.min-m.ensures

pub returns-in-Some-clause-first : goal.returns-in-Some-clause-first
returns-in-Some-clause-first g c =
    let test = g.T.RecordTest.test c.args.test.now in
    let same = here c.args.sheet.shaped c.loop-b.b c.min-m.result _ c.loop-b-test.true c.div_ceil-b-end.ensures c.min-m.ensures in
    found_on _ _ _ _ (λ k l h. ap test (same k l h)) (λ j h. c.loop-b.invariant j h (omega (arith, c.loop-b-test.true, c.div_ceil-b-end.ensures))) c.args.sheet.count c.in-Some.k (omega (arith, c.loop-b-test.true, c.div_ceil-b-end.ensures, c.min-m.ensures)) c.in-Some.ensures

pub loop-b-preserved : goal.loop-b-preserved
loop-b-preserved g c =
    let test = g.T.RecordTest.test c.args.test.now in
    let same = here c.args.sheet.shaped c.loop-b.b c.min-m.result _ c.loop-b-test.true c.div_ceil-b-end.ensures c.min-m.ensures in
    λ j h i. none_on _ _ (λ k. test (at (code_of c.args.sheet.bytes.now) k)) _ (λ k l h. ap test (same k l h)) (λ j h. c.loop-b.invariant j h (omega (arith, c.loop-b-test.true, c.div_ceil-b-end.ensures))) c.in_default.ensures j (omega (arith, c.min-m.ensures, h, i))

pub returns-clause-first : goal.returns-clause-first
returns-clause-first g c = finds_first c.args.sheet.count _ None (λ j l h. c.loop-b.invariant j (omega (arith, c.div_ceil-b-end.ensures)) h)
