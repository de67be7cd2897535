-- How long decimals are, their last digits, and hex by the bytes of a set. Assumes nothing.
use Rattle.std.specs.Prelude.{◌≡◌, Bool, true, false, cond, eqb, ltb, List, [], ◌∷◌, ◌++◌, ℕ, zero, suc, ◌+◌, ◌-◌, ◌*◌, ◌/◌, ◌%◌, ◌^◌, ◌≤◌, ◌<◌, length, get_or, decimal}
use Rattle.std.proofs.Common.{sym, ap, ◌∙◌, pow-suc, zero-add, pow-add, lt-ltb, le-ltb, length-append, arith}
use Rattle.std.specs.Fmt.{digits, digits_onto, digit_glyph}
use Rattle.std.proofs.lemmas.Fmt.{decimal_from_appends_wide, length-decimal-le_wide}
use Rattle.std.proofs.Math.Nat.{zero-div, div-div-eq-div-mul}
use Rattle.base.specs.Sizes.{set_bytes}
use Rattle.base.specs.Bytes.{number, Bytes}
use Rattle.base.specs.ListLaws.{by_test, get_d_tab, length_tab}
use Rattle.base.specs.JoinLaws.{by_lt}
use Rattle.listing.specs.Words.{hex_digit, hex, decimal_in}

-- ---- decimal

-- any number has at most 64 digits
onto_most : (k x : ℕ) (rest : List ℕ) → length (digits_onto k 10 false x rest) ≤ k + length rest
onto_most zero x rest = omega arith
onto_most (suc k) x rest =
    by_test (λ b. length {A = ℕ} (cond b (digit_glyph false (x % 10) ∷ rest) (digits_onto k 10 false (x / 10) (digit_glyph false (x % 10) ∷ rest))) ≤ suc k + length rest) (eqb (x / 10) 0)
    (λ _. omega arith) (λ _. omega (arith, onto_most k (x / 10) (digit_glyph false (x % 10) ∷ rest)))

pub decimal_most : (x : ℕ) → length (decimal x) ≤ 64
unfolding digits
decimal_most x = onto_most 64 x []

pub decimal_twenty : (x : ℕ) → x < 10 ^ 20 → length (decimal x) ≤ 20
decimal_twenty x h = length-decimal-le_wide 20 x (omega arith) h (omega (arith, h))

-- ---- the last digits

-- a number below 10 has one digit
pub in_small : (d x : ℕ) → x < 10 → decimal_in (suc d) x ≡ (48 + x) ∷ []
unfolding decimal_in
in_small d x h = ap (λ (b : Bool). elim b as (λ _. List ℕ) [ true ↦ (48 + x) ∷ [] | false ↦ decimal_in d (x / 10) ++ ((48 + x % 10) ∷ []) ]) (lt-ltb x 10 h)

-- another has those of its tenth, and its last
pub in_more : (d x : ℕ) → 10 ≤ x → decimal_in (suc d) x ≡ decimal_in d (x / 10) ++ ((48 + x % 10) ∷ [])
unfolding decimal_in
in_more d x h = ap (λ (b : Bool). elim b as (λ _. List ℕ) [ true ↦ (48 + x) ∷ [] | false ↦ decimal_in d (x / 10) ++ ((48 + x % 10) ∷ []) ]) (le-ltb x 10 h)

-- room for one digit more changes nothing
pub in_room : (d x : ℕ) → x < 10 ^ suc d → decimal_in (suc d) x ≡ decimal_in (suc (suc d)) x
in_room zero x h = in_small 0 x h ∙ sym (in_small 1 x h)
in_room (suc d) x h =
    by_lt x 10 (λ l. in_small (suc d) x l ∙ sym (in_small (suc (suc d)) x l))
    (λ l. in_more (suc d) x l ∙ ap (λ (t : List ℕ). t ++ ((48 + x % 10) ∷ [])) (in_room d (x / 10) (omega (arith, pow-suc 10 (suc d)))) ∙ sym (in_more (suc (suc d)) x l))

-- no more than the number has
pub in_short : (e d x : ℕ) → x < 10 ^ suc d → length (decimal_in e x) ≤ suc d
in_short zero d x h = unfold decimal_in in omega arith
in_short (suc e) zero x h = omega (arith, ap length (in_small e x h))
in_short (suc e) (suc d) x h =
    by_lt x 10 (λ l. omega (arith, ap length (in_small e x l)))
    (λ l. omega (arith, ap length (in_more e x l), length-append (decimal_in e (x / 10)) ((48 + x % 10) ∷ []), in_short e d (x / 10) (omega (arith, pow-suc 10 (suc d)))))

-- and never more than d
pub in_most : (d x : ℕ) → length (decimal_in d x) ≤ d
unfolding decimal_in
in_most zero x = omega arith
in_most (suc d) x =
    by_test (λ b. length {A = ℕ} (elim b as (λ _. List ℕ) [ true ↦ (48 + x) ∷ [] | false ↦ decimal_in d (x / 10) ++ ((48 + x % 10) ∷ []) ]) ≤ suc d) (ltb x 10)
    (λ _. omega arith) (λ _. omega (arith, length-append (decimal_in d (x / 10)) ((48 + x % 10) ∷ []), in_most d (x / 10)))

-- below 10^20 the last 20 digits are all
pub decimal_last : (x : ℕ) → x < 10 ^ 20 → decimal x ≡ decimal_in 20 x
decimal_last x h = sym (decimal_from_appends_wide decimal_in (record { one = in_small; more = in_more }) 20 x (omega (arith, h)) (decimal_twenty x h))

-- one digit
pub last_small : (x : ℕ) → x < 10 → decimal_in 20 x ≡ (48 + x) ∷ []
last_small x h = in_small 19 x h

-- all digits but the last
pub last_more : (x : ℕ) → 10 ≤ x → x < 10 ^ 20 → decimal_in 20 x ≡ decimal_in 20 (x / 10) ++ ((48 + x % 10) ∷ [])
last_more x h s = in_more 19 x h ∙ ap (λ (t : List ℕ). t ++ ((48 + x % 10) ∷ [])) (in_room 18 (x / 10) (omega arith))

-- a digit less
pub last_less : (x : ℕ) → 10 ≤ x → x < 10 ^ 20 → length (decimal_in 20 x) ≡ length (decimal_in 20 (x / 10)) + 1
last_less x h s = ap length (last_more x h s) ∙ length-append (decimal_in 20 (x / 10)) ((48 + x % 10) ∷ [])

-- at most d + 1 digits
pub last_short : (d x : ℕ) → x < 10 ^ suc d → length (decimal_in 20 x) ≤ suc d
last_short d x h = in_short 20 d x h

-- never more than 20
pub last_most : (x : ℕ) → length (decimal_in 20 x) ≤ 20
last_most x = in_most 20 x

-- ---- hex: two digits of byte j

-- byte j of the number in p
byte_at : (p : List ℕ) → Bytes p → (j : ℕ) → get_or p j 0 ≡ number p / 16 ^ (2 * j) % 256
unfolding number
byte_at [] b j = sym (ap (λ (x : ℕ). x % 256) (zero-div (16 ^ (2 * j))))
byte_at (x ∷ xs) b zero = let small : x < 256 = b.each 0 in omega arith
byte_at (x ∷ xs) b (suc j) =
    let small : x < 256 = b.each 0 in
    let size : 2 * suc j ≡ 2 + 2 * j = omega arith in
    let rest : (x + 256 * number xs) / 256 ≡ number xs = omega arith in
    byte_at xs (record { each = λ i. b.each (suc i) }) j
    ∙ ap (λ (y : ℕ). y % 256) (ap (λ (y : ℕ). y / 16 ^ (2 * j)) (sym rest) ∙ div-div-eq-div-mul (x + 256 * number xs) 256 (16 ^ (2 * j)) ∙ ap (λ (y : ℕ). (x + 256 * number xs) / y) (sym (ap (λ (k : ℕ). 16 ^ k) size ∙ pow-add 16 2 (2 * j))))

hex_at : (x i : ℕ) → i < 2 * set_bytes → get_or (hex x) i 0 ≡ hex_digit (x / 16 ^ (2 * set_bytes - 1 - i) % 16)
unfolding hex
hex_at x i h =
    get_d_tab (2 * set_bytes) 0 i (λ i. hex_digit (x / 16 ^ (2 * set_bytes - 1 - i) % 16)) 0 h
    ∙ ap (λ (k : ℕ). hex_digit (x / 16 ^ (2 * set_bytes - 1 - k) % 16)) (zero-add i)

pub hex_length : (x : ℕ) → length (hex x) ≡ 2 * set_bytes
unfolding hex
hex_length x = length_tab (2 * set_bytes) 0 (λ i. hex_digit (x / 16 ^ (2 * set_bytes - 1 - i) % 16))

-- the digits of the byte that is i-th from the highest
pub hex_high : (p : List ℕ) → Bytes p → (i : ℕ) → i < set_bytes → hex_digit (get_or p (set_bytes - 1 - i) 0 / 16) ≡ get_or (hex (number p)) (2 * i) 0
hex_high p b i h =
    let j = set_bytes - 1 - i in
    let place : 2 * set_bytes - 1 - 2 * i ≡ suc (2 * j) = omega arith in
    let y = number p / 16 ^ (2 * j) in
    let byte : get_or p j 0 ≡ y % 256 = byte_at p b j in
    let digit : get_or p j 0 / 16 ≡ y / 16 % 16 = omega arith in
    sym (hex_at (number p) (2 * i) (omega arith)
    ∙ ap hex_digit (ap (λ (k : ℕ). number p / k % 16) (ap (λ (k : ℕ). 16 ^ k) place ∙ pow-suc 16 (2 * j)) ∙ ap (λ (z : ℕ). z % 16) (sym (div-div-eq-div-mul (number p) (16 ^ (2 * j)) 16)) ∙ sym digit))

pub hex_low : (p : List ℕ) → Bytes p → (i : ℕ) → i < set_bytes → hex_digit (get_or p (set_bytes - 1 - i) 0 % 16) ≡ get_or (hex (number p)) (2 * i + 1) 0
hex_low p b i h =
    let j = set_bytes - 1 - i in
    let place : 2 * set_bytes - 1 - (2 * i + 1) ≡ 2 * j = omega arith in
    let y = number p / 16 ^ (2 * j) in
    let byte : get_or p j 0 ≡ y % 256 = byte_at p b j in
    let digit : get_or p j 0 % 16 ≡ y % 16 = omega arith in
    sym (hex_at (number p) (2 * i + 1) (omega arith) ∙ ap hex_digit (ap (λ (k : ℕ). number p / 16 ^ k % 16) place ∙ sym digit))
