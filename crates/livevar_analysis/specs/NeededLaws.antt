-- Whoever gives a way to a use has shown that the local is listed. Assumes nothing.
use Rattle.std.specs.Prelude.{◌≡◌, List, ℕ, ◌^◌, ◌<◌, length}
use Rattle.std.proofs.Common.{sym, ap, ◌∙◌, arith}
use Rattle.base.specs.ListLaws.{by_eq, map_in}
use Rattle.dataflow_domains.specs.Mask.{bit, Sub}
use Rattle.dataflow_domains.specs.MaskLaws.{bit_lt, bit_other, sub_empty, sub_at, unions_in}
use Rattle.stackless_bytecode.specs.declared.Bytecode.{Bytecode}
use Rattle.stackless_bytecode.specs.Kinds.{at}
use Rattle.livevar_analysis.specs.Live.{execute, Obeys}
use Rattle.livevar_analysis.specs.LiveLaws.{transfer_mono}
use Rattle.livevar_analysis.specs.Needed.{Needed, used, handed}

-- the set of one element of m is within m
single_sub : (m j : ℕ) → bit m j ≡ 1 → Sub (2 ^ j) m
single_sub m j e = record { each = λ d. by_eq d j (λ q. omega (arith, bit_lt (2 ^ j) d, ap (bit m) q, e)) (λ g. omega (arith, bit_other j d (λ q. g (sym q)))) }

module _ (code : List Bytecode) (b a : ℕ → ℕ) (ob : Obeys code b a) where
  -- what is live before k, where some of what is live behind it gives it
  from : (k i m : ℕ) → k < length code → Sub m (a k) → bit (execute (at code k) m) i ≡ 1 → bit (b k) i ≡ 1
  from k i m h s e = ap (λ (x : ℕ). bit x i) (ob.before k h) ∙ sub_at (transfer_mono (at code k) m (a k) s) i e

  -- what is needed is in before, in all sets that obey the rules: in the program's, and in any others
  pub needed_listed : {k i : ℕ} → Needed code k i → bit (b k) i ≡ 1
  needed_listed {k} {i} (used h e) = from k i 0 h (sub_empty (a k)) e
  needed_listed {k} {i} (handed o j h m n e) =
      from k i (2 ^ j) h (single_sub (a k) j (ap (λ (x : ℕ). bit x j) (ob.after k h) ∙ sub_at (unions_in _ (map_in b _ m)) j (needed_listed n))) e
