-- Every sheet that the checks accept is valid. Assumes nothing.
use Rattle.std.specs.Prelude.{◌≡◌, true, not, ◌||◌, List, ◌++◌, ℕ, ◌-◌, ◌<◌, ltb, length}
use Rattle.std.proofs.Common.{ap, ◌∙◌, arith, ltb-true}
use Rattle.base.specs.Lists.{all}
use Rattle.base.specs.Refusals.{Accepted}
use Rattle.base.specs.ListLaws.{and-true, or_not}
use Rattle.base.specs.SearchLaws.{none_all}
use Rattle.stackless_bytecode.specs.Kinds.{dsts_of, srcs_of, at, is_flagged, falls_through}
use Rattle.stackless_bytecode.specs.Sound.{Sound}
use Rattle.sheet.specs.Layout.{count_of, locals_of, code_of}
use Rattle.sheet.specs.Checks.{locals_ok, fresh, check_sheet}
use Rattle.sheet.specs.CheckLaws.{clear, code_length, code_sound}
use Rattle.sheet.specs.AcceptLaws.{HeadingLayout, is_heading, fresh_unique}
use Rattle.sheet.specs.AcceptedLaws.{local_lt}
use Rattle.sheet.specs.Valid.{Valid}

pub accepted_valid : (s : List ℕ) → check_sheet s ≡ Accepted → Valid s
accepted_valid s e = record {
  some = heading.some;
  few = heading.few;
  locals = heading.locals;
  users = heading.users;
  params = heading.params;
  refs = heading.refs;
  size = heading.size;
  count = n;
  stops = λ k h. sound.stops k (omega (arith, n));
  listed = λ k x h i. local_lt (locals_of s) (at (code_of s) k) (ok k h) x i;
  abort = λ k h f. abort k h f;
  inside = λ k l h i. omega (arith, n, (sound.named k l (omega (arith, n)) i).inside);
  label = λ k l h i. (sound.named k l (omega (arith, n)) i).label;
  once = fresh_unique (code_of s) (λ k h. none_all (length (code_of s)) 0 (fresh (code_of s)) (clear s e).six k (omega arith) (omega arith));
  closed = ap (λ (x : ℕ). falls_through (at (code_of s) x)) last ∙ sound.closed;
}
  where
    heading : HeadingLayout s
    heading = is_heading s (clear s e).three

    sound : Sound (code_of s)
    sound = code_sound s e

    n : length (code_of s) ≡ count_of s
    n = code_length s

    last : count_of s - 1 ≡ length (code_of s) - 1
    last = omega (arith, n)

    ok : (k : ℕ) → k < count_of s → locals_ok (locals_of s) (at (code_of s) k) ≡ true
    ok k h = none_all (length (code_of s)) 0 (λ j. locals_ok (locals_of s) (at (code_of s) j)) (clear s e).five k (omega arith) (omega (arith, n))

    abort : (k : ℕ) → k < count_of s → is_flagged (at (code_of s) k) ≡ true → (at (code_of s) k).abort < locals_of s
    abort k h f =
        let both = and-true (all (λ x. ltb x (locals_of s)) (dsts_of (at (code_of s) k) ++ srcs_of (at (code_of s) k))) (not (is_flagged (at (code_of s) k)) || ltb (at (code_of s) k).abort (locals_of s)) (unfold locals_ok in ok k h) in
        ltb-true (at (code_of s) k).abort (locals_of s) (or_not (is_flagged (at (code_of s) k)) (ltb (at (code_of s) k).abort (locals_of s)) both.1 f)
