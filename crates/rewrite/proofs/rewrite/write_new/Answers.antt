use Rattle.std.proofs.Common.{refl, ℕ, ◌*◌, ◌-◌, arith}
use Rattle.std.proofs.lemmas.List.{length-replicate}
use Rattle.base.specs.Sizes.{max_blocks}
use Rattle.sheet_writer.specs.Written.{body_bytes}
use Rattle.sheet.specs.ValidLaws.{accepted_valid}
use Rattle.sheet_writer.specs.SheetLaws.{few_blocks, blank_holds}
use Rattle.rewrite.proofs.rewrite.write_new.Goals as goal

pub write_sheet-requires-clause-heading : goal.write_sheet-requires-clause-heading
write_sheet-requires-clause-heading c = omega (arith, (accepted_valid _ c.args.numbered.plan.sheet.accepted).size)

pub write_sheet-requires-clause-records : goal.write_sheet-requires-clause-records
write_sheet-requires-clause-records c = omega (arith, few_blocks c.args.m c.requires.few, c.transform_code.auto.out, length-replicate {A = ℕ} (body_bytes * (max_blocks - 1)) 0)

pub write_sheet-requires-clause-room : goal.write_sheet-requires-clause-room
write_sheet-requires-clause-room c = omega (arith, c.requires.room, few_blocks c.args.m c.requires.few)

pub returns : goal.returns
returns c =
    let p = c.requires in
    c.write_sheet.ensures _ p.long (blank_holds _ _ _ (record { size = body_bytes * (max_blocks - 1); is = refl; room = omega arith }) (omega (arith, p.long, p.few)) c.transform_code.ensures)
