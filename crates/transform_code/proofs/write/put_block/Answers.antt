use Rattle.std.proofs.Common.{refl, ap, ◌∙◌}
use Rattle.sheet.specs.Layout.{encode}
use Rattle.livevar_transform.specs.NewCodeLaws.{block_written}
use Rattle.transform_code.proofs.write.put_block.Goals as goal

pub returns : goal.returns
returns c =
    block_written _ _ c.args.target _ _ _ _ _ _ _ _ c.requires.some c.requires.small c.ones-count.ensures _
    (c.encode.ensures ∙ ap encode c.mark.ensures)
    refl c.put_destroys.ensures refl
    (c.encode-2.ensures ∙ ap encode c.mark-2.ensures) refl
