use Rattle.std.proofs.Common.{◌≡◌, ◌^◌, ltb, drop}
use Rattle.base.specs.Bytes.{number}
use Rattle.sheet_form.proofs.blocks.mask_below.Given as goal

abbrev pub invariant-loop-x : goal.invariant-loop-x
invariant-loop-x l = ltb (number l.p) (2 ^ l.l) ≡ ltb (number (drop l.x-index l.p)) (2 ^ l.rest)
