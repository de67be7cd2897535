use Rattle.std.proofs.Common.{refl, sym, ◌∙◌, ◌-◌, ◌*◌, arith}
use Rattle.base.specs.Sizes.{max_blocks}
use Rattle.sheet_writer.specs.Written.{body_bytes}
use Rattle.sheet_writer.specs.SheetLaws.{blank_holds}
use Rattle.eliminate_unused_vars.specs.Renumber.{renumbered_code}
use Rattle.eliminate_unused_vars.specs.RemapLaws.{new_length}
use Rattle.eliminate_unused_vars.specs.RenumberWorkLaws.{new_written}
use Rattle.renumber.proofs.renumber.eliminate_unused_vars.Goals as goal

pub returns : goal.returns
returns c =
    let sheet = c.args.sheet in
    let s = sheet.bytes.now in
    let count = sheet.shaped.count ∙ sym (new_length s) in
    new_written s c.new_heading.new.head _ _ _ c.new_heading.ensures
    (c.write_sheet.ensures (renumbered_code s) count
    (blank_holds _ _ _ (record { size = body_bytes * (max_blocks - 1); is = refl; room = omega arith }) (omega (arith, count, sheet.few)) c.remap_code.ensures))
