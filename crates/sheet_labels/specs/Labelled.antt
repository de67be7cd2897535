-- What is kept of the Labels: a bitmap of their numbers, and lists of their numbers and offsets. Assumes nothing.
use Rattle.base.specs.declared.Refusal.TheVariants.{LabelRepeated, LabelUndefined}
use Rattle.std.specs.Prelude.{◌≡◌, List, ℕ, ◌+◌, ◌/◌, ◌%◌, ◌≤◌, ◌<◌, get_or, take, drop, length, Option, None, Result, Ok}
use Rattle.base.specs.Lists.{gather, has, place, first_bad}
use Rattle.dataflow_domains.specs.Mask.{holds}
use Rattle.stackless_bytecode.specs.declared.Bytecode.{Bytecode}
use Rattle.stackless_bytecode.specs.Kinds.{at, label_of}
use Rattle.stackless_bytecode.specs.Slots.{label_places, Resolved}
use Rattle.sheet.specs.Checks.{fresh, names_ok}
use Rattle.base.specs.Refusals.{Verdict, Accepted, check, ◌then◌}
use Rattle.std.specs.Result.{result_err}

-- words of 64 label numbers
abbrev pub seen_words : ℕ
seen_words = 1024

-- the bitmap has exactly these numbers
pub record SeenBits (seen xs : List ℕ) : Type 0 where
  pub each : (l : ℕ) → l < 65536 → holds (get_or seen (l / 64) 0) (l % 64) ≡ has l xs

-- the numbers and the offsets of the Labels, ascending by offset
pub record LabelLists (code : List Bytecode) (labels places : List ℕ) : Type 0 where
  pub names : labels ≡ gather label_of code
  pub offsets : places ≡ label_places code

-- how many Labels there are, with their lists at the front of what is lent; or the first that repeats a number
pub record LabelsOf (code : List Bytecode) (r : Result ℕ ℕ) (labels places : List ℕ) : Type 0 where
  pub first : result_err r ≡ first_bad (length code) 0 (fresh code)
  pub few : (m : ℕ) → r ≡ Ok m → m ≤ length code
  pub listed : (m : ℕ) → r ≡ Ok m → LabelLists code (take m labels) (take m places)

-- l is none of the first j labels
pub record Search (labels : List ℕ) (l j : ℕ) : Type 0 where
  pub within : j ≤ length labels
  pub rest : has l labels ≡ has l (drop j labels)
  pub at_rest : place l labels ≡ j + place l (drop j labels)

-- the first instruction that names a label that no Label has; or the offset of each slot's label
pub record Named (code : List Bytecode) (n : ℕ) (r : Option ℕ) (targets : List ℕ) : Type 0 where
  pub first : r ≡ first_bad n 0 (λ k. names_ok code (at code k))
  pub resolved : r ≡ None → Resolved code targets

-- what checks 6 and 7 answer, and what they leave where they accept
pub record Labelled (code : List Bytecode) (n : ℕ) (r : Verdict) (targets : List ℕ) : Type 0 where
  pub answer : r ≡ (check LabelRepeated (first_bad n 0 (fresh code)) then check LabelUndefined (first_bad n 0 (λ k. names_ok code (at code k))))
  pub resolved : r ≡ Accepted → Resolved code targets
