-- A record against its row in the order of the code: the ranges, what is not used, then the lists. Assumes nothing.
use Rattle.std.specs.Prelude.{◌≡◌, refl, Bool, true, false, ◌||◌, ◌&&◌, eqb, leb, ltb, drop}
use Rattle.std.proofs.Common.{ap, ◌∙◌}
use Rattle.std.proofs.Math.Bool.{and-true, and-false}
use Rattle.base.specs.Lists.{zeros}
use Rattle.stackless_bytecode.specs.declared.Bytecode.{Bytecode}
use Rattle.sheet.specs.declared.Shape.{Shape}
use Rattle.sheet.specs.Checks.{fits}

-- the sub and the counts are within their bounds
abbrev pub ranges : Shape → Bytecode → Bool
ranges f r = ltb r.sub f.subs && leb f.dlow r.ndst && leb r.ndst f.dhigh && leb f.slow r.nsrc && leb r.nsrc f.shigh

-- what the kind does not use is 0
abbrev pub unused : Shape → Bytecode → Bool
unused f r =
    (f.one || eqb r.flag 1 || eqb r.one 0) && (f.two || eqb r.two 0) && (eqb r.flag 0 || (f.flag && eqb r.flag 1))
    && (eqb r.flag 1 || eqb r.abort 0) && (f.payload || eqb r.payload 0)

-- so is each list place past its count
abbrev pub spare : Bytecode → Bool
spare r = zeros (drop r.ndst r.dsts) && zeros (drop r.nsrc r.srcs)

regroup : (a b c d e x y p : Bool) → a && b && c && d && e && x && y && p ≡ (a && (b && c && d && e && p)) && (x && y)
regroup false b c d e x y p = refl
regroup true false c d e x y p = refl
regroup true true false d e x y p = refl
regroup true true true false e x y p = refl
regroup true true true true false x y p = refl
regroup true true true true true x y true = and-true (x && y)
regroup true true true true true x y false = and-false (x && y)

fits_is : (f : Shape) (r : Bytecode) → fits f r ≡ (ranges f r && unused f r) && spare r
unfolding fits
fits_is f r = regroup (ranges f r) _ _ _ _ _ _ _

-- ---- by the step at which the code returns

pub no_ranges : (f : Shape) (r : Bytecode) → ranges f r ≡ false → fits f r ≡ false
no_ranges f r e = fits_is f r ∙ ap (λ (b : Bool). (b && unused f r) && spare r) e

in_ranges : (f : Shape) (r : Bytecode) → ranges f r ≡ true → fits f r ≡ unused f r && spare r
in_ranges f r h = fits_is f r ∙ ap (λ (b : Bool). (b && unused f r) && spare r) h

pub no_unused : (f : Shape) (r : Bytecode) → ranges f r ≡ true → unused f r ≡ false → fits f r ≡ false
no_unused f r h e = in_ranges f r h ∙ ap (λ (b : Bool). b && spare r) e

pub lists_left : (f : Shape) (r : Bytecode) → ranges f r ≡ true → unused f r ≡ true → fits f r ≡ spare r
lists_left f r h e = in_ranges f r h ∙ ap (λ (b : Bool). b && spare r) e
