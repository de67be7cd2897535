use Rattle.std.proofs.Common.{ℕ, List, ◌≡◌, ap, ◌∙◌, subst, arith}
use mathlib.Core.List.{Memᴰ}
use Rattle.stackless_bytecode.specs.Successors.{successors}
use Rattle.stackless_control_flow_graph.specs.Arrays.{succs_in}
use Rattle.sheet.specs.Code.{code_in}
use Rattle.stackless_control_flow_graph.specs.CheckedSheetLaws.{checked_sound}
use Rattle.stackless_control_flow_graph.specs.StartLaws.{succs_within}
use Rattle.stackless_control_flow_graph.proofs.blocks.Blocks.successors.Goals as goal

pub returns-clause-successors : goal.returns-clause-successors
returns-clause-successors c = let b = c.args.self in ap (succs_in b.goes.now) c.from.ensures ∙ b.found.going.each _ c.requires

pub returns-clause-within : goal.returns-clause-within
returns-clause-within c =
    let b = c.args.self in
    let is : succs_in b.goes.now c.from.result ≡ successors (code_in b.sheet) c.args.offset = ap (succs_in b.goes.now) c.from.ensures ∙ b.found.going.each _ c.requires in
    record { each = λ x i. omega (arith, (succs_within _ (checked_sound b.sheet.checked) _ c.requires).each x (subst (λ (l : List ℕ). Memᴰ x l) is i)) }
