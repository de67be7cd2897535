use Rattle.std.proofs.Common.{◌∙◌, ◌^◌, ◌%◌, one-mul, shl_exact, arith}
use Rattle.dataflow_domains.specs.SetLaws.{lone_here, lone_else}
use Rattle.dataflow_domains.proofs.word_of.Goals as goal

pub returns-then-j-at : goal.returns-then-j-at
returns-then-j-at c = let a = c.args in
    shl_exact 1 (a.local % 64) 64 (omega arith) (omega arith) ∙ one-mul (2 ^ (a.local % 64)) ∙ lone_here a.local a.j (omega arith) (omega arith)

-- (at one word it is found without this)
pub returns-else-j-at : goal.returns-else-j-at
returns-else-j-at c = lone_else c.args.local c.args.j (λ e. c.if-j-at.false (omega arith))
