use Rattle.std.proofs.Common.{◌≡◌, ◌∙◌, ap, rules}
use Rattle.base.specs.Bytes.{number, part}
use Rattle.dataflow_domains.specs.ByteWords.{bytes_word}
use Rattle.dataflow_domains.proofs.word_at.Goals as goal

pub returns : goal.returns
returns c =
    let is : c.unwrap.result.now ≡ part c.args.p.now c.args.at 8 = search rules in
    c.from_le_bytes.ensures ∙ bytes_word c.unwrap.result.now (search rules) ∙ ap number is
