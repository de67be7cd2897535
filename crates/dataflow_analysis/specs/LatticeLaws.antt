-- Two kinds of values that have the laws have them together. Assumes nothing.
use Rattle.std.specs.Prelude.{◌≡◌, refl, Bool, true, false, ◌&&◌, ◌+◌, ◌≤◌, ◌<◌}
use Rattle.std.proofs.Common.{arith}
use Rattle.base.specs.ListLaws.{and-true}
use Rattle.dataflow_analysis.specs.Lattice.{Lattice, Laws, Bounded, Both, both}

-- part by part
pub record BothLe {A B : Type 0} (P : A → A → Type 0) (Q : B → B → Type 0) (a b : Both A B) : Type 0 where
  pub left : P a.left b.left
  pub right : Q a.right b.right

module _ {K L : Lattice} (V' : Laws K) (W : Laws L) where
  abbrev pub both_laws : Laws (both K L)
  both_laws = record {
    Le = BothLe V'.Le W.Le;
    le_refl = λ a. record { left = V'.le_refl a.left; right = W.le_refl a.right };
    le_trans = λ p q. record { left = V'.le_trans p.left q.left; right = W.le_trans p.right q.right };
    none_le = λ a. record { left = V'.none_le a.left; right = W.none_le a.right };
    le_left = λ a b. record { left = V'.le_left a.left b.left; right = W.le_left a.right b.right };
    le_right = λ a b. record { left = V'.le_right a.left b.left; right = W.le_right a.right b.right };
    join_least = λ p q. record { left = V'.join_least p.left q.left; right = W.join_least p.right q.right };
    same_le = λ a b e. let t = and-true _ _ e in record { left = V'.same_le a.left b.left t.0; right = W.same_le a.right b.right t.1 };
  }

  -- the size of both is the sum
  pub both_grows : {s : K.Value} {t : L.Value} (S : Bounded V' s) (T' : Bounded W t) (a b : Both K.Value L.Value)
      → V'.Le a.left s → W.Le a.right t → V'.Le b.left s → W.Le b.right t
      → K.same (K.join a.left b.left) a.left && L.same (L.join a.right b.right) a.right ≡ false
      → S.size a.left + T'.size a.right < S.size (K.join a.left b.left) + T'.size (L.join a.right b.right)
  both_grows S T' a b al ar bl br e = go (K.same (K.join a.left b.left) a.left) refl e
    where
      l : S.size a.left ≤ S.size (K.join a.left b.left)
      l = S.size_mono _ _ (V'.le_left a.left b.left)

      r : T'.size a.right ≤ T'.size (L.join a.right b.right)
      r = T'.size_mono _ _ (W.le_left a.right b.right)

      go : (x : Bool) → K.same (K.join a.left b.left) a.left ≡ x → x && L.same (L.join a.right b.right) a.right ≡ false
          → S.size a.left + T'.size a.right < S.size (K.join a.left b.left) + T'.size (L.join a.right b.right)
      go true q e = omega (arith, l, T'.size_grows a.right b.right ar br e)
      go false q e = omega (arith, r, S.size_grows a.left b.left al bl q)

  -- for request E10, which runs the list over two kinds of values together
  abbrev pub both_bounded : {s : K.Value} {t : L.Value} → Bounded V' s → Bounded W t → Bounded both_laws (record { left = s; right = t })
  both_bounded S T' = record {
    size = λ a. S.size a.left + T'.size a.right;
    size_none = omega (arith, S.size_none, T'.size_none);
    size_mono = λ a b h. omega (arith, S.size_mono _ _ h.left, T'.size_mono _ _ h.right);
    size_grows = λ a b p q e. both_grows S T' a b p.left p.right q.left q.right e;
  }
