use Rattle.std.proofs.Common.{refl, sym, ap, ◌∙◌, eqb, rules}
use Rattle.stackless_bytecode.specs.declared.Bytecode.{Bytecode}
use Rattle.stackless_bytecode.specs.Kinds.{Label}
use Rattle.sheet_labels.specs.LabelLaws.{pass_none, pass_skip, pass_stop, pass_more, labels_repeated, labels_count}
use Rattle.sheet_labels.proofs.labels.list_labels.Goals as goal
use Rattle.sheet_labels.proofs.labels.list_labels.Goals.{else-is_label, then-is_label+else-has_bit}

pub loop-k-init : goal.loop-k-init
loop-k-init c = pass_none _ _ _ _ _ refl

pub returns-then-has_bit : goal.returns-then-has_bit
returns-then-has_bit c =
    let is = sym c.instruction-r.ensures in
    labels_repeated c.args.sheet.size
    (pass_stop c.loop-k.invariant c.args.sheet.size (search rules) (ap (λ (r : Bytecode). eqb r.kind Label) is ∙ sym c.is_label.ensures ∙ c.if-is_label.true) _ (ap (λ (r : Bytecode). r.one) (sym is)) (search rules) (sym c.has_bit.ensures ∙ c.if-has_bit.true))

pub loop-k-preserved : goal.loop-k-preserved
loop-k-preserved c =
    let l = c.loop-k in
    let size = c.args.sheet.size in
    let is = sym c.instruction-r.ensures in
    let label = ap (λ (r : Bytecode). eqb r.kind Label) is ∙ sym c.is_label.ensures in
    elim c.if-is_label.branch [
      | then-is_label+else-has_bit w ↦ pass_more l.invariant size (search rules) (label ∙ w.if-is_label.true) _ (ap (λ (r : Bytecode). r.one) (sym is)) (search rules)
          (sym w.has_bit.ensures ∙ w.if-has_bit.false) (search rules) (search rules) (rw w.seen-is w.put_bit.ensures) w.labels-is w.places-is w.m-is
      | else-is_label w ↦ pass_skip l.invariant size (search rules) (label ∙ w.if-is_label.false) w.seen-is w.labels-is w.places-is w.m-is
    ]

pub returns : goal.returns
returns c = labels_count c.loop-k.invariant c.args.sheet.size (search rules)
