use Rattle.std.proofs.Common.{◌≡◌, refl, sym, ap, ◌∙◌, length-take-le, ℕ, ◌+◌, ◌*◌, length, get_or, take, rules, arith}
use Rattle.base.specs.Bytes.{bytes_of}
use Rattle.base.specs.WriteLaws.{part_back}
use Rattle.dataflow_domains.specs.Sets.{mask}
use Rattle.dataflow_domains.specs.ByteWords.{word_bytes, each_more, each_length, all_bytes}
use Rattle.base.specs.Sizes.{set_words}
use Rattle.dataflow_domains.specs.Words.{bytes_each}
use Rattle.dataflow_domains.specs.SetLaws.{Array, array}
use Rattle.dataflow_domains.proofs.LiveVarState.store_bytes.Goals as goal

pub loop-j-init : goal.loop-j-init
unfolding bytes_each
loop-j-init c = refl

pub loop-j-preserved : goal.loop-j-preserved
loop-j-preserved c =
    let l = c.loop-j in
    let s = c.args in
    let known : Array s.self.livevars = search (rules, array) in
    let next : 8 * (l.j + 1) ≡ 8 * l.j + 8 = omega arith in
    let size : length (bytes_each 8 (take l.j s.self.livevars)) ≡ 8 * l.j = each_length 8 (take l.j s.self.livevars) ∙ ap (λ (n : ℕ). 8 * n) (length-take-le l.j s.self.livevars (omega (arith, known.long))) in
    let word : c.copy_from_slice.new.self ≡ bytes_of 8 (get_or s.self.livevars l.j 0) = c.copy_from_slice.ensures.after ∙ c.to_le_bytes.ensures ∙ sym (word_bytes (get_or s.self.livevars l.j 0)) in
    rw (word, next, each_more 8 s.self.livevars l.j (omega (arith, known.long))) (part_back (bytes_each 8 (take l.j s.self.livevars)) (bytes_of 8 (get_or s.self.livevars l.j 0)) s.out.now l.out (8 * l.j) (8 * l.j + 8) (omega arith) size l.invariant)

pub returns : goal.returns
unfolding mask
returns c =
    let l = c.loop-j in
    let s = c.args in
    let known : Array s.self.livevars = search (rules, array) in
    let all : l.j ≡ set_words = omega arith in
    l.invariant ∙ all_bytes s.self.livevars s.out.now l.j known (search rules) all
