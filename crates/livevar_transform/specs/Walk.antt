-- Rewriting as one walk by offset, as `transform_code` does it, with the numbers that come next carried along; and what it gives. Assumes nothing.
use Rattle.std.specs.Prelude.{◌≡◌, Bool, true, false, not, ◌||◌, ◌&&◌, List, [], ◌∷◌, ◌++◌, ℕ, suc, ◌+◌, ◌*◌, eqb, get_or, length}
use Rattle.std.specs.Int.Bits.{bit_and}
use Rattle.dataflow_domains.specs.Mask.{holds, minus}
use Rattle.stackless_bytecode.specs.declared.Bytecode.{Bytecode}
use Rattle.base.specs.Sizes.{max_locals}
use Rattle.base.specs.Lists.{keep}
use Rattle.stackless_bytecode.specs.Kinds.{Assign, Call, Load, Branch, at}
use Rattle.stackless_bytecode.specs.Labels.{label_offset}
use Rattle.livevar_analysis.specs.Analysis.{LiveVarInfo}
use Rattle.livevar_transform.specs.Rewrite.{aimed, into, destroy_block, info_at, next_free_label, next_free_attr, label_for, attr_for, added_code, transform_code}

-- ---- the walk

-- the label and the attribute id that come next, and the blocks so far
pub record Tail : Type 0 where
  pub label : ℕ
  pub attr : ℕ
  pub code : List Bytecode

-- an edge that loses the locals `lost` on its way to the label `target`
unfoldable pub edge_tail : Tail → ℕ → List ℕ → Tail
edge_tail t target [] = t
edge_tail t target (x ∷ xs) = record {
  label = suc t.label;
  attr = t.attr + 2 + length (x ∷ xs);
  code = t.code ++ destroy_block t.attr t.label target (x ∷ xs);
}

-- the label that the edge goes to
unfoldable pub edge_label : Tail → ℕ → List ℕ → ℕ
edge_label t target [] = target
edge_label t target (x ∷ xs) = t.label

-- what the walk has: the code so far, and the tail
pub record Done : Type 0 where
  pub code : List Bytecode
  pub tail : Tail

-- the records are put in front of what the rest of the walk gives
abbrev pub front : List Bytecode → Done → Done
front rs d = record { code = rs ++ d.code; tail = d.tail }

-- the Assign r takes its value from d, which is dead behind it
unfoldable pub merges_into : ℕ → Bytecode → LiveVarInfo → Bool
merges_into d r s = eqb r.kind Assign && eqb (get_or r.srcs 0 0) d && not (holds s.after d)

-- what a Load or an Assign sets is dead
unfoldable pub dead_in : Bytecode → LiveVarInfo → Bool
dead_in r s = (eqb r.kind Assign || eqb r.kind Load) && not (holds s.after (get_or r.dsts 0 0))

module _ (code : List Bytecode) (info : List LiveVarInfo) (refs : ℕ) where
  -- the references in `after` that are not in the set before the label's offset, ascending
  unfoldable pub lost_to : ℕ → ℕ → List ℕ
  lost_to after label = keep max_locals 0 (holds (minus (bit_and after refs) (info_at info (label_offset code label)).before))

  -- from offset k on; `skip`: the Assign at k was merged
  unfoldable pub walk : List Bytecode → ℕ → Bool → Tail → Done
  walk [] k skip t = record { code = []; tail = t }
  walk (r ∷ rs) k true t = walk rs (suc k) false t
  walk (r ∷ rs) k false t =
      let s = info_at info k in
      elim (dead_in r s) [
        | true ↦ walk rs (suc k) false t
        | false ↦ elim (eqb r.kind Branch) [
          | true ↦
              let lost1 = lost_to s.after r.one in
              let t1 = edge_tail t r.one lost1 in
              let lost2 = lost_to s.after r.two in
              let t2 = edge_tail t1 r.two lost2 in
              front (aimed r (edge_label t r.one lost1) (edge_label t1 r.two lost2) ∷ []) (walk rs (suc k) false t2)
          | false ↦ elim (eqb r.kind Call && eqb r.ndst 1 && merges_into (get_or r.dsts 0 0) (at code (suc k)) (info_at info (suc k))) [
            | true ↦ front (into r (at code (suc k)).dsts ∷ []) (walk rs (suc k) true t)
            | false ↦ front (r ∷ []) (walk rs (suc k) false t)
          ]
        ]
      ]

  unfoldable pub walked : Done
  walked = walk code 0 false (record { label = next_free_label code; attr = next_free_attr code; code = [] })

  -- the walk gives the new code, and the numbers that come next
  pub record Walked : Type 0 where
    pub new : walked.code ++ walked.tail.code ≡ transform_code code info refs
    pub added : walked.tail.code ≡ added_code code info refs
    pub label : walked.tail.label ≡ label_for code info refs (2 * length code)
    pub attr : walked.tail.attr ≡ attr_for code info refs (2 * length code)
