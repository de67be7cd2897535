use Rattle.std.proofs.Common.{sym, ◌∙◌, arith}
use Rattle.sheet.specs.Shaped.{record_inside, code_at}
use Rattle.sheet.proofs.shaped.ShapedSheet.instruction.Goals as goal

pub instruction_at-requires-clause-inside : goal.instruction_at-requires-clause-inside
instruction_at-requires-clause-inside c = record_inside c.args.self.shaped _ c.requires

pub instruction_at-requires-clause-few : goal.instruction_at-requires-clause-few
instruction_at-requires-clause-few c = omega (arith, c.args.self.few, c.requires)

pub returns : goal.returns
returns c = c.instruction_at.ensures ∙ sym (code_at c.args.self.shaped _ c.requires)
