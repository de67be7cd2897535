-- Readings of class sets, by computation: the checks of the whole and their order, refused sheets between others, sheets glued and sheets cut in two. Assumes nothing.
use Rattle.base.specs.declared.Refusal.TheVariants.{FirstBlock, Length, OutputShort, TooManySheets}
use Rattle.std.specs.Prelude.{◌≡◌, refl, List, [], ◌∷◌, ◌++◌, ℕ, ◌*◌, ◌-◌, set, replicate, Err}
use Rattle.base.specs.Sizes.{block_bytes, max_sheets, slot_bytes, answer_numbers}
use Rattle.base.specs.Lists.{tab, gather}
use Rattle.base.specs.Refusals.{Reply, Done}
use Rattle.class_set.specs.ClassSet.{starts_of, answers_reply}
use Rattle.worked.specs.Samples.{m1, m2}
use Rattle.worked.specs.Opened.{opened}

-- the numbers that a class set gets where so many bytes and numbers are lent as m sheets need
unfoldable pub class_of : ℕ → List ℕ → Reply
class_of m s = answers_reply s (slot_bytes * m) (answer_numbers * m)

-- n blocks of zeros, each a sheet of one block
unfoldable pub zero_blocks : ℕ → List ℕ
zero_blocks n = replicate (block_bytes * n) 0

-- M2 with its check wrong in block 1
unfoldable pub m2_damaged : List ℕ
m2_damaged = set m2 600 1

pub record ClassReadings : Type 0 where
  -- each sheet's number, place and count
  pub two_sheets : class_of 2 (m1 ++ m2) ≡ Done 2 (0 ∷ 0 ∷ 3 ∷ 0 ∷ 0 ∷ 7 ∷ [])
  -- a refused sheet stops no other
  pub refused_between : class_of 3 (m1 ++ m2_damaged ++ m2) ≡ Done 3 (0 ∷ 0 ∷ 3 ∷ 2 ∷ 1 ∷ 0 ∷ 0 ∷ 0 ∷ 7 ∷ [])
  -- the heading of M2 numbered 1: it is glued onto M1, whose block 2 then has a wrong number
  pub glued : class_of 1 (m1 ++ set m2 0 1) ≡ Done 1 (2 ∷ 2 ∷ 0 ∷ [])
  pub glued_start : starts_of (m1 ++ set m2 0 1) ≡ 0 ∷ []
  -- block 1 of M1 numbered 0: M1 is cut in two sheets of one block
  pub cut_in_two : class_of 3 (set m1 512 0 ++ m2) ≡ Done 3 (1 ∷ 0 ∷ 0 ∷ 1 ∷ 0 ∷ 0 ∷ 0 ∷ 0 ∷ 7 ∷ [])
  pub cut_starts : starts_of (set m1 512 0 ++ m2) ≡ 0 ∷ 1 ∷ 2 ∷ []
  -- 1 of the whole: no block, or a rest
  pub class_refused_1 : class_of 1 [] ≡ Err Length
  pub class_refused_1_rest : class_of 1 (m1 ++ (0 ∷ [])) ≡ Err Length
  -- 1 before 16
  pub class_refused_1_first : class_of 0 (1 ∷ []) ≡ Err Length
  pub class_refused_16 : class_of 1 (set m1 0 1) ≡ Err FirstBlock
  -- the high byte of the number counts too
  pub class_refused_16_high : class_of 1 (set m1 1 1) ≡ Err FirstBlock
  -- 16 before 17, 17 before 9
  pub class_refused_16_first : class_of 0 (set (zero_blocks 18) 0 1) ≡ Err FirstBlock
  pub class_refused_17 : class_of 0 (zero_blocks 17) ≡ Err TooManySheets
  pub sixteen_sheets : class_of 16 (zero_blocks 16) ≡ Done max_sheets (gather (λ k. 1 ∷ 0 ∷ 0 ∷ []) (tab max_sheets 0 (λ k. k)))
  -- 9 for either output; a refused sheet needs its bytes and its numbers too
  pub class_refused_9_sets : answers_reply (m1 ++ m2_damaged) (slot_bytes * 2 - 1) 6 ≡ Err OutputShort
  pub class_refused_9_numbers : answers_reply (m1 ++ m2_damaged) (slot_bytes * 2) 5 ≡ Err OutputShort

pub class_readings : ClassReadings
unfolding class_of zero_blocks m2_damaged opened
class_readings = record {
  two_sheets = refl;
  refused_between = refl;
  glued = refl;
  glued_start = refl;
  cut_in_two = refl;
  cut_starts = refl;
  class_refused_1 = refl;
  class_refused_1_rest = refl;
  class_refused_1_first = refl;
  class_refused_16 = refl;
  class_refused_16_high = refl;
  class_refused_16_first = refl;
  class_refused_17 = refl;
  sixteen_sheets = refl;
  class_refused_9_sets = refl;
  class_refused_9_numbers = refl;
}
