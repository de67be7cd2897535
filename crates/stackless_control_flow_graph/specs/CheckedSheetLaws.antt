-- What an accepted sheet gives the flow. Assumes nothing.
use Rattle.std.specs.Prelude.{◌≡◌, refl, Bool, true, false, ℕ, ◌+◌, ◌*◌, ◌<◌, ◌≤◌, get_or, set, length, List, [], ◌∷◌}
use Rattle.std.proofs.Common.{sym, ap, ap₂, ◌∙◌, subst, true≢false, add-one, arith, get_or-set_other, get_or-set_same}
use mathlib.Core.List.{Memᴰ}
use Rattle.base.specs.ListLaws.{by_eq}
use Rattle.stackless_bytecode.specs.declared.Bytecode.{Bytecode}
use Rattle.stackless_bytecode.specs.Kinds.{at, stop_ok, is_branch}
use Rattle.stackless_bytecode.specs.Successors.{Unique, successors}
use Rattle.stackless_bytecode.specs.Sound.{Sound}
use Rattle.stackless_bytecode.specs.SlotLaws.{LabelsBelow}
use Rattle.sheet.specs.Layout.{code_of}
use Rattle.sheet.specs.Accepted.{CheckedSheet}
use Rattle.sheet.specs.CheckLaws.{code_sound}
use Rattle.sheet.specs.Shaped.{Shaped, code_size}
use Rattle.sheet.specs.FormLaws.{accepted_shaped}
use Rattle.sheet.specs.ValidLaws.{accepted_valid}
use Rattle.stackless_control_flow_graph.specs.declared.Successors.{Successors}
use Rattle.stackless_control_flow_graph.specs.Blocks.{starts}
use Rattle.stackless_control_flow_graph.specs.Arrays.{offsets_of, succs_by, mark_all, Within, Marking, Visits}
use Rattle.stackless_control_flow_graph.specs.BlockLaws.{succs_quiet}
use Rattle.stackless_control_flow_graph.specs.StartLaws.{resolved_succs, succs_within, going_more, marks_skip, marks_more}

-- ---- an accepted sheet and the offsets of its labels

module _ {s : List ℕ} {n : ℕ} {targets : List ℕ} (g : CheckedSheet s n targets) where
  pub checked_shaped : Shaped s n
  checked_shaped = accepted_shaped s n g.count g.accepted

  pub checked_sound : Sound (code_of s)
  checked_sound = code_sound s g.accepted

  pub checked_once : Unique (code_of s)
  checked_once = (accepted_valid s g.accepted).once

  pub checked_size : length (code_of s) ≡ n
  checked_size = code_size checked_shaped

  -- ---- one instruction

  module _ (k : ℕ) (h : k < n) (r : Bytecode) (here : r ≡ at (code_of s) k) (below : LabelsBelow r) where
    inside : k < length (code_of s)
    inside = omega (arith, checked_size)

    pub next_stop : stop_ok r ≡ true
    next_stop = ap stop_ok here ∙ checked_sound.stops k inside

    pub next_is : (e : Successors) (next : ℕ) → next ≡ k + 1 → offsets_of e ≡ succs_by r (get_or targets (2 * k) 0) (get_or targets (2 * k + 1) 0) next → offsets_of e ≡ successors (code_of s) k
    next_is e next q p =
        p ∙ ap₂ (λ (x : Bytecode) (y : ℕ). succs_by x (get_or targets (2 * k) 0) (get_or targets (2 * k + 1) 0) y) here q
        ∙ resolved_succs (code_of s) targets k g.resolved inside (subst (λ (x : Bytecode). LabelsBelow x) here below)

    -- what does not end a block goes on
    pub next_on : (e : Successors) (next : ℕ) → next ≡ k + 1 → offsets_of e ≡ next ∷ [] → is_branch r ≡ false → offsets_of e ≡ successors (code_of s) k
    next_on e next q p b = p ∙ ap (λ (x : ℕ). x ∷ []) (q ∙ add-one k) ∙ sym (succs_quiet (code_of s) k (ap is_branch (sym here) ∙ b))

    pub next_within : (e : Successors) → offsets_of e ≡ successors (code_of s) k → Within n (offsets_of e)
    next_within e p = record { each = λ x i. omega (arith, checked_size, (succs_within (code_of s) checked_sound k inside).each x (subst (λ (l : List ℕ). Memᴰ x l) p i)) }

    pub visit_quiet : (goes : List Successors) (marks : List Bool) (e : Successors) → n ≤ length goes → offsets_of e ≡ successors (code_of s) k → is_branch r ≡ false → Visits (code_of s) k goes marks (set goes k e) marks
    visit_quiet goes marks e room p b = record {
      going = going_more (code_of s) k goes e (omega arith) p;
      marking = marks_skip (code_of s) k marks (ap is_branch (sym here) ∙ b);
    }

    pub visit_branch : (goes : List Successors) (marks : List Bool) (e : Successors) → n ≤ length goes → n < length marks → offsets_of e ≡ successors (code_of s) k → is_branch r ≡ true
        → Visits (code_of s) k goes marks (set goes k e) (mark_all marks ((k + 1) ∷ offsets_of e))
    visit_branch goes marks e room wide p b = record {
      going = going_more (code_of s) k goes e (omega arith) p;
      marking = λ m. subst (λ (l : List ℕ). Marking (code_of s) (k + 1) (mark_all marks ((k + 1) ∷ l))) (sym p) (marks_more (code_of s) checked_sound k marks inside (omega (arith, checked_size)) (ap is_branch (sym here) ∙ b) m);
    }

-- ---- the pass begins

pub marks_begin : (s : List ℕ) (marks : List Bool) → 0 < length marks → ((j : ℕ) → get_or marks j false ≡ false) → Marking (code_of s) 0 (set marks 0 true)
marks_begin s marks h z = record {
  sound = λ j l e. by_eq j 0 (λ q. ap (starts (code_of s)) q ∙ unfold starts in refl) (λ q. absurd (true≢false (sym e ∙ get_or-set_other marks 0 j true false q ∙ z j)));
  entry = get_or-set_same marks 0 true false h;
  behind = λ j l. absurd (omega arith);
  named = λ j o l. absurd (omega arith);
}
