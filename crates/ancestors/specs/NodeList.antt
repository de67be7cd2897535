-- What a contract sees of a list of nodes. Assumes nothing.
use Rattle.std.specs.Prelude.{ℕ, List}

-- the nodes, in order, and the unused places, of which no clause says anything
pub record NodeList : Type 0 where
  pub items : List ℕ
  pub spare : List ℕ
