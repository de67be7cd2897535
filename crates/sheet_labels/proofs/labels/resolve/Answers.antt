use Rattle.std.proofs.Common.{refl, sym, ap, ◌∙◌, rules, arith}
use Rattle.base.specs.Lists.{has}
use Rattle.stackless_bytecode.specs.Slots.{no_label}
use Rattle.sheet.specs.LabelLaws.{slot_some, slot_none, code_below}
use Rattle.sheet_labels.specs.NameLaws.{search_more, search_end, slots_skip, slots_found, slots_missing, listed_length, named_missing, named_all}
use Rattle.sheet_labels.proofs.labels.resolve.Goals as goal
use Rattle.sheet_labels.proofs.labels.resolve.Goals.{in_default, in-Some+else-j-labels+then-labels-j}

pub returns-then-e-sheet : goal.returns-then-e-sheet
returns-then-e-sheet c =
    named_all _ _ (code_below c.args.sheet.shaped (λ i. omega (arith, c.args.sheet.fits.each i))) c.outer.invariant c.args.sheet.size (search rules)

pub loop-j-preserved : goal.loop-j-preserved
loop-j-preserved c = search_more c.loop-j.invariant (search rules) c.if-labels-j.false

pub bounds-places-j : goal.bounds-places-j
bounds-places-j c = omega (arith, listed_length c.requires.listed)

pub outer-preserved : goal.outer-preserved
outer-preserved c =
    let o = c.outer in
    elim c.match-name.branch [
      | in-Some+else-j-labels+then-labels-j w ↦
          let is = slot_some _ o.e c.instruction-r.ensures w.in-Some.ensures in
          rw w.targets-is (slots_found o.invariant (search rules) w.in-Some.l is (search rules) c.requires.listed w.loop-j.j w.loop-j.invariant (omega (arith, w.if-j-labels.false)) w.if-labels-j.true (search rules))
      | in_default w ↦ rw w.targets-is (slots_skip o.invariant (search rules) no_label (slot_none _ o.e c.instruction-r.ensures w.in_default.ensures) refl)
    ]

pub returns : goal.returns
returns c =
    let o = c.outer in
    let is = slot_some _ o.e c.instruction-r.ensures c.in-Some.ensures in
    named_missing _ _ (code_below c.args.sheet.shaped (λ i. omega (arith, c.args.sheet.fits.each i)))
    (slots_missing o.invariant (search rules) c.in-Some.l is (search rules) (ap (has c.in-Some.l) (sym c.requires.listed.names) ∙ search_end c.loop-j.invariant (search rules)))
