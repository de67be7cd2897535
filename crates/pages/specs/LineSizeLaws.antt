-- No line of a sheet's code is longer than is counted. Assumes nothing.
use Rattle.std.specs.Prelude.{◌≡◌, refl, Bool, true, false, cond, ◌||◌, ℕ, zero, suc, ◌+◌, ◌*◌, ◌≤◌, ◌<◌, take, List, [], ◌∷◌, ◌++◌, eqb, length, codes, decimal}
use Rattle.std.proofs.Common.{arith, length-append, length-take}
use Rattle.std.specs.List.{list_all}
use Rattle.std.proofs.Math.Dec.{leb}
use Rattle.std.proofs.lemmas.Bool.{leb-true}
use mathlib.Core.List.Memᴰ
use mathlib.Core.List.{Memᴰ}
use Rattle.base.specs.Sizes.{list_places, max_locals, max_number, max_instructions}
use Rattle.base.specs.Lists.{joins, keep}
use Rattle.base.specs.ListLaws.{by_test, and-true}
use Rattle.dataflow_domains.specs.Mask.{holds}
use Rattle.stackless_bytecode.specs.declared.Bytecode.{Bytecode}
use Rattle.stackless_bytecode.specs.Kinds.{at, dsts_of, srcs_of}
use Rattle.sheet.specs.Layout.{locals_of, user_locals_of, parameters_of, refs_of, code_of}
use Rattle.sheet.specs.Checks.{check_sheet}
use Rattle.base.specs.Refusals.{Accepted}
use Rattle.sheet.specs.AcceptedLaws.{local_lt}
use Rattle.base.specs.Bytes.{Bytes}
use Rattle.sheet.specs.ValidLaws.{accepted_valid}
use Rattle.sheet_writer.specs.EncodeLaws.{Encodes}
use Rattle.sheet_writer.specs.BodyLaws.{accepted_body}
use Rattle.listing.specs.Words.{said}
use Rattle.std.proofs.lemmas.Fmt.{length-decimal-le}
use Rattle.pages.specs.Words.{word, marked, listed}
use Rattle.pages.specs.Code.{verbs, assigns, operations, constants, props, names, destinations, branch_labels, labels, sources, aborting, does, takes, code_line, locals_below, locals_in, counts, heading_text, code_lines, code_text}
use Rattle.pages.specs.Size.{number_digits, payload_digits, local_digits, locals_bytes, heading_bytes, code_line_bytes, code_bytes}

-- ---- numbers and words

pub number_most : (x : ℕ) → x ≤ max_number → length (decimal x) ≤ number_digits
number_most x h = length-decimal-le 5 x (omega arith) (omega arith) (omega arith)

local_most : (x : ℕ) → x < max_locals → length (decimal x) ≤ local_digits
local_most x h = length-decimal-le local_digits x (omega arith) (omega arith) (omega arith)

pub said_most : (w : List ℕ) (x d : ℕ) → length (decimal x) ≤ d → length (said w x) ≤ length w + d
said_most w x d h = omega (arith, length-append w (decimal x))

pub cond_most : (b : Bool) (x y : List ℕ) (n : ℕ) → length x ≤ n → length y ≤ n → length (cond b x y) ≤ n
cond_most true x y n h g = h
cond_most false x y n h g = g

pub marked_most : (w : List ℕ) (x d : ℕ) → length (decimal x) ≤ d → length (marked w x) ≤ length w + d
unfolding marked
marked_most w x d h = cond_most (eqb x 0) [] (said w x) (length w + d) (omega arith) (said_most w x d h)

-- locals, with two bytes beside each
listed_most : (a b xs : List ℕ) → length a + length b ≤ 2 → ((x : ℕ) → Memᴰ x xs → x < max_locals) → length (listed a b xs) ≤ length xs * (2 + local_digits)
unfolding listed
listed_most a b [] h low = omega arith
listed_most a b (x ∷ xs) h low =
    omega (arith, length-append (said a x ++ b) (listed a b xs), length-append (said a x) b, said_most a x local_digits (local_most x (low x (Memᴰ.head refl))), listed_most a b xs h (λ y i. low y (Memᴰ.tail i)))

-- where every word has at most m bytes
abbrev short : ℕ → List (List ℕ) → Bool
short m words = list_all (λ w. leb (length w) m) words

word_most : (m i : ℕ) (words : List (List ℕ)) → short m words ≡ true → length (word i words) ≤ m
word_most m i [] e = omega arith
word_most m zero (w ∷ ws) e = leb-true (length w) m (and-true (leb (length w) m) (short m ws) e).0
word_most m (suc i) (w ∷ ws) e = word_most m i ws (and-true (leb (length w) m) (short m ws) e).1

verb_most : (k : ℕ) → length (word k verbs) ≤ 11
verb_most k = word_most 11 k verbs refl

name_most : (sub k : ℕ) → length (word sub (names k)) ≤ 17
unfolding names
name_most sub k =
    by_test (λ b. length (word sub (cond b assigns (cond (eqb k 1) operations (cond (eqb k 3) constants (cond (eqb k 11) props []))))) ≤ 17) (eqb k 0) (λ _. word_most 17 sub assigns refl)
    (λ _. by_test (λ b. length (word sub (cond b operations (cond (eqb k 3) constants (cond (eqb k 11) props [])))) ≤ 17) (eqb k 1) (λ _. word_most 17 sub operations refl)
    (λ _. by_test (λ b. length (word sub (cond b constants (cond (eqb k 11) props []))) ≤ 17) (eqb k 3) (λ _. word_most 17 sub constants refl)
    (λ _. by_test (λ b. length (word sub (cond b props [])) ≤ 17) (eqb k 11) (λ _. word_most 17 sub props refl) (λ _. omega arith))))

-- ---- an instruction's line

module _ (r : Bytecode) (e : Encodes r) (low : (x : ℕ) → Memᴰ x (dsts_of r ++ srcs_of r) → x < max_locals) where
  destinations_most : length (destinations r) ≤ 3 + list_places * (2 + local_digits)
  unfolding destinations dsts_of
  destinations_most =
      omega (
        arith,
        e.dsts,
        length-append (listed (codes "t") (codes " ") (take r.ndst r.dsts)) (cond (eqb r.ndst 0) [] (codes "<- ")),
        listed_most (codes "t") (codes " ") (take r.ndst r.dsts) (omega arith) (λ x i. low x (Memᴰ.append_left (srcs_of r) i)),
        length-take r.ndst r.dsts,
        cond_most (eqb r.ndst 0) [] (codes "<- ") 3 (omega arith) (omega arith),
      )

  sources_most : length (sources r) ≤ list_places * (2 + local_digits)
  unfolding sources srcs_of
  sources_most =
      omega (arith, e.srcs, listed_most (codes " t") [] (take r.nsrc r.srcs) (omega arith) (λ x i. low x (Memᴰ.append_right (dsts_of r) i)), length-take r.nsrc r.srcs)

  one_most : length (decimal r.one) ≤ number_digits
  one_most = number_most r.one e.one

  branch_most : length (branch_labels r.one r.two) ≤ 7 + 2 * number_digits
  unfolding branch_labels
  branch_most =
      omega (
        arith,
        length-append (said (codes " L") r.one ++ said (codes " L") r.two) (codes " on"),
        length-append (said (codes " L") r.one) (said (codes " L") r.two),
        said_most (codes " L") r.one number_digits one_most,
        said_most (codes " L") r.two number_digits (number_most r.two e.two),
      )

  labels_most : length (labels r) ≤ 7 + 2 * number_digits
  unfolding labels
  labels_most =
      cond_most (eqb r.kind 4) (branch_labels r.one r.two) (cond (eqb r.kind 5 || eqb r.kind 6) (said (codes " L") r.one) []) (7 + 2 * number_digits) branch_most
      (cond_most (eqb r.kind 5 || eqb r.kind 6) (said (codes " L") r.one) [] (7 + 2 * number_digits) (omega (arith, said_most (codes " L") r.one number_digits one_most)) (omega arith))

  aborting_most : length (aborting r) ≤ 15 + 2 * number_digits
  unfolding aborting
  aborting_most =
      cond_most (eqb r.flag 1) (said (codes " abort L") r.one ++ said (codes " into t") r.abort) [] (15 + 2 * number_digits)
      (omega (arith, length-append (said (codes " abort L") r.one) (said (codes " into t") r.abort), said_most (codes " abort L") r.one number_digits one_most, said_most (codes " into t") r.abort number_digits (number_most r.abort (omega (arith, e.abort))))) (omega arith)

  does_most : length (does r) ≤ 38 + 2 * number_digits + list_places * (2 + local_digits)
  unfolding does
  does_most =
      omega (
        arith,
        length-append (destinations r ++ word r.kind verbs ++ word r.sub (names r.kind)) (labels r),
        length-append (destinations r ++ word r.kind verbs) (word r.sub (names r.kind)),
        length-append (destinations r) (word r.kind verbs),
        destinations_most,
        verb_most r.kind,
        name_most r.sub r.kind,
        labels_most,
      )

  takes_most : length (takes r) ≤ 19 + 3 * number_digits + payload_digits + list_places * (2 + local_digits)
  unfolding takes
  takes_most =
      omega (
        arith,
        length-append (sources r ++ aborting r ++ marked (codes " #") r.payload) (marked (codes " @") r.attr),
        length-append (sources r ++ aborting r) (marked (codes " #") r.payload),
        length-append (sources r) (aborting r),
        sources_most,
        aborting_most,
        marked_most (codes " #") r.payload payload_digits (length-decimal-le 10 r.payload (omega arith) (omega (arith, e.payload)) (omega (arith, e.payload))),
        marked_most (codes " @") r.attr number_digits (number_most r.attr e.attr),
      )

  line_most : (k : ℕ) → k < max_instructions → length (code_line k r) ≤ code_line_bytes
  unfolding code_line
  line_most k h =
      omega (
        arith,
        length-append (decimal k ++ codes ": " ++ does r ++ takes r) (codes "\n"),
        length-append (decimal k ++ codes ": " ++ does r) (takes r),
        length-append (decimal k ++ codes ": ") (does r),
        length-append (decimal k) (codes ": "),
        number_most k (omega arith),
        does_most,
        takes_most,
      )

-- ---- a sheet's code

pub joins_most : (m n : ℕ) (f : ℕ → List ℕ) → ((k : ℕ) → k < n → length (f k) ≤ m) → length (joins n f) ≤ n * m
unfolding joins
joins_most m zero f h = omega arith
joins_most m (suc n) f h = omega (arith, length-append (joins n f) (f n), h n (omega arith), joins_most m n f (λ k l. h k (omega arith)))

members_most : (n k : ℕ) (f : ℕ → Bool) → k + n ≤ max_locals → length (listed (codes " t") [] (keep n k f)) ≤ n * (2 + local_digits)
unfolding keep listed
members_most zero k f h = omega arith
members_most (suc n) k f h =
    by_test (λ b. length (listed (codes " t") [] (cond b (k ∷ keep n (suc k) f) (keep n (suc k) f))) ≤ suc n * (2 + local_digits)) (f k)
    (λ _. omega (arith, length-append (said (codes " t") k ++ []) (listed (codes " t") [] (keep n (suc k) f)), length-append (said (codes " t") k) [], said_most (codes " t") k local_digits (local_most k (omega arith)), members_most n (suc k) f (omega arith)))
    (λ _. omega (arith, members_most n (suc k) f (omega arith)))

pub locals_most : (m : ℕ) → length (locals_in m) ≤ locals_bytes
unfolding locals_below
locals_most m = members_most max_locals 0 (holds m) (omega arith)

module _ (s : List ℕ) (bytes : Bytes s) (accepted : check_sheet s ≡ Accepted) where
  counts_most : length (counts s) ≤ 36 + 3 * number_digits
  unfolding counts
  counts_most =
      let v = accepted_valid s accepted in
      omega (
        arith,
        length-append (said (codes "locals ") (locals_of s) ++ said (codes " user ") (user_locals_of s) ++ said (codes " parameters ") (parameters_of s)) (codes " references"),
        length-append (said (codes "locals ") (locals_of s) ++ said (codes " user ") (user_locals_of s)) (said (codes " parameters ") (parameters_of s)),
        length-append (said (codes "locals ") (locals_of s)) (said (codes " user ") (user_locals_of s)),
        said_most (codes "locals ") (locals_of s) number_digits (number_most (locals_of s) (omega (arith, v.locals))),
        said_most (codes " user ") (user_locals_of s) number_digits (number_most (user_locals_of s) (omega (arith, v.locals, v.users))),
        said_most (codes " parameters ") (parameters_of s) number_digits (number_most (parameters_of s) (omega (arith, v.locals, v.users, v.params))),
      )

  heading_most : length (heading_text s) ≤ heading_bytes
  unfolding heading_text
  heading_most =
      omega (arith, length-append (counts s ++ locals_in (refs_of s)) (codes "\n"), length-append (counts s) (locals_in (refs_of s)), counts_most, locals_most (refs_of s))

  pub code_most : length (code_text s) ≤ code_bytes
  unfolding code_text code_lines
  code_most =
      omega (
        arith,
        length-append (heading_text s) (joins (length (code_of s)) (λ k. code_line k (at (code_of s) k))),
        heading_most,
        joins_most code_line_bytes (length (code_of s)) (λ k. code_line k (at (code_of s) k)) each,
        (accepted_body s bytes accepted).few,
      )
    where
      each : (k : ℕ) → k < length (code_of s) → length (code_line k (at (code_of s) k)) ≤ code_line_bytes
      each k h =
          let b = accepted_body s bytes accepted in
          line_most (at (code_of s) k) (b.encodes k h) (λ x i. omega (arith, (accepted_valid s accepted).locals, local_lt (locals_of s) (at (code_of s) k) (b.locals k h) x i)) k (omega (arith, b.few))
