-- The bytes of a table of 16-bit numbers, and a call that is lent one. Assumes nothing.
use Rattle.std.specs.Prelude.{ℕ, zero, suc, ◌+◌, ◌*◌, ◌%◌, ◌/◌, ◌≤◌, ◌<◌, ◌≡◌, ◌↔◌, refl, Bool, IsTrue, List, [], ◌∷◌, ◌++◌, length, get_or, take, drop, set}
use Rattle.std.proofs.Common.{arith, sym, ap, ap₂, ◌∙◌, length-take-le}
use Rattle.base.specs.WriteLaws.{wrote, wrote_more, wrote_all}
use Rattle.base.specs.Refusals.{Reply, answer_of, output_after}
use Rattle.c_api.specs.Packed.{packed}
use Rattle.agreement.specs.Agree.{pairs, at_front, after, AgreesPairs}

pub pairs_length : (xs : List ℕ) → length (pairs xs) ≡ 2 * length xs
unfolding pairs
pairs_length [] = refl
pairs_length (x ∷ xs) = omega (arith, pairs_length xs)

pairs_low : (xs : List ℕ) (i : ℕ) → i < length xs → get_or (pairs xs) (2 * i) 0 ≡ get_or xs i 0 % 256
unfolding pairs
pairs_low [] i h = absurd (omega arith)
pairs_low (x ∷ xs) zero h = refl
pairs_low (x ∷ xs) (suc i) h =
    let e : 2 * suc i ≡ suc (suc (2 * i)) = omega arith in
    ap (λ (n : ℕ). get_or (pairs (x ∷ xs)) n 0) e ∙ pairs_low xs i (omega arith)

pairs_high : (xs : List ℕ) (i : ℕ) → i < length xs → get_or (pairs xs) (2 * i + 1) 0 ≡ get_or xs i 0 / 256
unfolding pairs
pairs_high [] i h = absurd (omega arith)
pairs_high (x ∷ xs) zero h = refl
pairs_high (x ∷ xs) (suc i) h =
    let e : 2 * suc i + 1 ≡ suc (suc (2 * i + 1)) = omega arith in
    ap (λ (n : ℕ). get_or (pairs (x ∷ xs)) n 0) e ∙ pairs_high xs i (omega arith)

-- a turn: the two bytes of number i are stored
pub pairs_more : (d xs out : List ℕ) (i x y : ℕ) → i < length xs → 2 * length xs ≤ length d → out ≡ wrote d (pairs xs) (2 * i) → x ≡ get_or xs i 0 % 256 → y ≡ get_or xs i 0 / 256
    → set (set out (2 * i) x) (2 * i + 1) y ≡ wrote d (pairs xs) (2 * (i + 1))
pairs_more d xs out i x y h room q ex ey =
    let l : length (pairs xs) ≡ 2 * length xs = pairs_length xs in
    let first : set out (2 * i) x ≡ wrote d (pairs xs) (2 * i + 1) = ap₂ (λ (o : List ℕ) (v : ℕ). set o (2 * i) v) q (ex ∙ sym (pairs_low xs i h)) ∙ wrote_more d (pairs xs) (2 * i) (omega arith) (omega arith) in
    let next : 2 * i + 1 + 1 ≡ 2 * (i + 1) = omega arith in
    ap₂ (λ (o : List ℕ) (v : ℕ). set o (2 * i + 1) v) first (ey ∙ sym (pairs_high xs i h))
    ∙ wrote_more d (pairs xs) (2 * i + 1) (omega arith) (omega arith)
    ∙ ap (wrote d (pairs xs)) next

-- the end: every number
pub pairs_all : (d xs out : List ℕ) (i : ℕ) → i ≡ length xs → out ≡ wrote d (pairs xs) (2 * i) → out ≡ at_front (pairs xs) d
pairs_all d xs out i e q =
    let l : 2 * i ≡ length (pairs xs) = omega (arith, pairs_length xs) in
    q ∙ wrote_all d (pairs xs) (2 * i) l

-- a call is lent the front of `table`, replies with `got` and leaves `last` there; its bytes are written over `out`, and b compares both
pub agreed_pairs : (f : ℕ → Reply) (lent result got : ℕ) (table last out new want : List ℕ) (b : Bool) → lent ≤ length table
    → got ≡ packed (answer_of (f (length (take lent table)))) → last ≡ output_after (f (length (take lent table))) (take lent table)
    → new ≡ at_front (pairs (last ++ drop lent table)) out → (IsTrue b ↔ ((got ≡ result) × (new ≡ want)))
    → (IsTrue b ↔ AgreesPairs (f lent) lent result table out want)
agreed_pairs f lent result got table last out new want b h is kept bytes says =
    let e : length (take lent table) ≡ lent = length-take-le lent table h in
    let a : packed (answer_of (f lent)) ≡ got = ap (λ (n : ℕ). packed (answer_of (f n))) (sym e) ∙ sym is in
    let o : at_front (pairs (after (f lent) lent table)) out ≡ new =
    ap (λ (n : ℕ). at_front (pairs (output_after (f n) (take lent table) ++ drop lent table)) out) (sym e)
    ∙ ap (λ (l : List ℕ). at_front (pairs (l ++ drop lent table)) out) (sym kept) ∙ sym bytes in
    (λ t. record { answer = a ∙ (says.0 t).0; output = o ∙ (says.0 t).1 }, λ w. says.1 (sym a ∙ w.answer, sym o ∙ w.output))
