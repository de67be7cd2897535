-- What a row of the file says. Assumes nothing.
use Rattle.std.specs.Prelude.{ℕ, ◌+◌, List}
use Rattle.base.specs.Bytes.{u32_at}
use Rattle.stored_cases.specs.declared.stored.Place.{Place}

-- the place in the eight bytes from `at` on: where a packed string begins, and how long it is
abbrev pub place_in : List ℕ → ℕ → Place
place_in p at = record { from = u32_at p at; long = u32_at p (at + 4) }
