-- Words and numbers in text. Assumes nothing.
use Rattle.std.specs.Prelude.{ℕ, zero, suc, ◌+◌, ◌-◌, ◌*◌, ◌/◌, ◌%◌, ◌^◌, true, false, cond, List, [], ◌∷◌, ◌++◌, ltb, decimal}
use Rattle.base.specs.Sizes.{set_bytes}
use Rattle.base.specs.Lists.{tab}

-- ---- a set in hex

-- lower case
unfoldable pub hex_digit : ℕ → ℕ
hex_digit n = cond (ltb n 10) (48 + n) (87 + n)

-- highest digit first: two digits a byte
unfoldable pub hex : ℕ → List ℕ
hex x = tab (2 * set_bytes) 0 (λ i. hex_digit (x / 16 ^ (2 * set_bytes - 1 - i) % 16))

-- ---- a word and a number in decimal

abbrev pub said : List ℕ → ℕ → List ℕ
said w x = w ++ decimal x

-- the last d digits of a number, or all where it has no more
unfoldable pub decimal_in : ℕ → ℕ → List ℕ
decimal_in zero x = []
decimal_in (suc d) x = elim (ltb x 10) [ true ↦ (48 + x) ∷ [] | false ↦ decimal_in d (x / 10) ++ ((48 + x % 10) ∷ []) ]
