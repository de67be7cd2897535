use Rattle.std.proofs.Common.{◌+◌, refl, sym, ◌∙◌, arith, rules}
use Rattle.stackless_control_flow_graph.specs.declared.Successors.{Successors}
use Rattle.stackless_control_flow_graph.specs.CheckedSheetLaws.{next_stop, next_is, next_on, next_within, visit_quiet, visit_branch}
use Rattle.stackless_control_flow_graph.proofs.starts.visit.Goals as goal

pub returns-then-not-is_branch : goal.returns-then-not-is_branch
returns-then-not-is_branch c =
    let s = c.args.sheet.checked in
    let r = c.instruction-r in
    let quiet = sym c.is_branch.ensures ∙ c.if-not-is_branch.true in
    visit_quiet s c.args.k c.requires.inside r.result r.ensures (record { one = search rules; two = search rules }) _ _ (Successors.One (c.args.k + 1)) c.requires.goes
    (next_on s c.args.k c.requires.inside r.result r.ensures (record { one = search rules; two = search rules }) (Successors.One (c.args.k + 1)) _ refl refl quiet) quiet

pub by_kind-e-requires : goal.by_kind-e-requires
by_kind-e-requires c =
    let r = c.instruction-r in
    next_stop c.args.sheet.checked c.args.k c.requires.inside r.result r.ensures (record { one = search rules; two = search rules })

pub mark_starts-requires-clause-within : goal.mark_starts-requires-clause-within
mark_starts-requires-clause-within c =
    let s = c.args.sheet.checked in
    let r = c.instruction-r in
    let e = c.by_kind-e in
    let is = next_is s c.args.k c.requires.inside r.result r.ensures (record { one = search rules; two = search rules }) e.result _ refl e.ensures in
    let w = next_within s c.args.k c.requires.inside r.result r.ensures (record { one = search rules; two = search rules }) e.result is in
    record { each = λ x i. omega (arith, w.each x i) }

pub returns : goal.returns
returns c =
    let s = c.args.sheet.checked in
    let r = c.instruction-r in
    let e = c.by_kind-e in
    let is = next_is s c.args.k c.requires.inside r.result r.ensures (record { one = search rules; two = search rules }) e.result _ refl e.ensures in
    rw c.mark_starts.ensures (visit_branch s c.args.k c.requires.inside r.result r.ensures (record { one = search rules; two = search rules }) _ _ e.result c.requires.goes c.requires.marks is (sym c.is_branch.ensures ∙ c.if-not-is_branch.false))
