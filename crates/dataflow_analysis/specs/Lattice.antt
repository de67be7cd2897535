-- What a work list hands on: values that are joined. Sets of locals are one kind (`masks`); `both` puts two kinds together. Assumes nothing.
use Rattle.std.specs.Prelude.{◌≡◌, Bool, true, false, ◌&&◌, ℕ, ◌≤◌, ◌<◌, eqb}
use Rattle.dataflow_domains.specs.Mask.{union}

-- the values, the least of them, the join of two, and the test whether a join has no more than the first
pub record Lattice : Type 1 where
  pub Value : Type 0
  pub none : Value
  pub join : Value → Value → Value
  pub same : Value → Value → Bool

-- sets of locals, joined by union
abbrev pub masks : Lattice
masks = record { Value = ℕ; none = 0; join = union; same = eqb }

-- the order: a join is the least value above both, and the test says whether the second was below the first. Values below each other need not be equal
pub record Laws (L : Lattice) : Type 1 where
  pub Le : L.Value → L.Value → Type 0
  pub le_refl : (a : L.Value) → Le a a
  pub le_trans : {a b c : L.Value} → Le a b → Le b c → Le a c
  pub none_le : (a : L.Value) → Le L.none a
  pub le_left : (a b : L.Value) → Le a (L.join a b)
  pub le_right : (a b : L.Value) → Le b (L.join a b)
  pub join_least : {a b c : L.Value} → Le a c → Le b c → Le (L.join a b) c
  pub same_le : (a b : L.Value) → L.same (L.join a b) a ≡ true → Le b a

-- the size, for values up to `top`: a join that has more than the first is larger than it
pub record Bounded {L : Lattice} (W : Laws L) (top : L.Value) : Type 0 where
  pub size : L.Value → ℕ
  pub size_none : size L.none ≡ 0
  pub size_mono : (a b : L.Value) → W.Le a b → size a ≤ size b
  pub size_grows : (a b : L.Value) → W.Le a top → W.Le b top → L.same (L.join a b) a ≡ false → size a < size (L.join a b)

-- ---- two kinds of values together

-- a value of each
pub record Both (A B : Type 0) : Type 0 where
  pub left : A
  pub right : B

-- joined and compared part by part
abbrev pub both : Lattice → Lattice → Lattice
both K L = record {
  Value = Both K.Value L.Value;
  none = record { left = K.none; right = L.none };
  join = λ a b. record { left = K.join a.left b.left; right = L.join a.right b.right };
  same = λ a b. K.same a.left b.left && L.same a.right b.right;
}
