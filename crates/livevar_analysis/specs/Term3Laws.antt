-- Every sheet that the checks accept has term 3. Assumes nothing.
use Rattle.std.specs.Prelude.{◌≡◌, ℕ, ◌<◌, ◌^◌, get_or, length, List}
use Rattle.std.proofs.Common.{ap, arith}
use mathlib.Core.List.{Memᴰ}
use Rattle.dataflow_domains.specs.Mask.{Sub}
use Rattle.dataflow_domains.specs.MaskLaws.{sub_antisymm}
use Rattle.stackless_bytecode.specs.declared.Bytecode.{Bytecode}
use Rattle.base.specs.Refusals.{Accepted}
use Rattle.sheet.specs.Layout.{locals_of, code_of}
use Rattle.stackless_control_flow_graph.specs.Blocks.{keyed}
use Rattle.livevar_analysis.specs.Live.{execute, Obeys}
use Rattle.livevar_analysis.specs.LiveLaws.{transfer_lt}
use Rattle.base.specs.Sizes.{taken_bound}
use Rattle.livevar_analysis.specs.LiveCall.{bound_of}
use Rattle.livevar_analysis.specs.Term3.{Term3}
use Rattle.livevar_analysis.specs.Analysis.{no_info, analyze}
use Rattle.sheet.specs.Checks.{check_sheet}
use Rattle.stackless_control_flow_graph.specs.FlowLaws.{keys_blocks}
use Rattle.livevar_analysis.specs.AnalysisLaws.{list_empty, same_taken, taken_le, sides_length, live_obeys, live_within, live_least}
use Rattle.sheet.specs.CheckLaws.{code_sound, locals_lt}

pub term3 : (s : List ℕ) → check_sheet s ≡ Accepted → Term3 s
term3 s e =
    let code = code_of s in
    let sound = code_sound s e in
    let l = locals_of s in
    record {
      count = sides_length code sound l (small s e);
      obeys = live_obeys code sound l (small s e);
      least = live_least code sound l (small s e);
      within = live_within code sound l (small s e);
      taken = record {
        empty = λ fuel h. list_empty code sound l (small s e) fuel (omega (arith, bound s e));
        count = λ fuel h. same_taken code sound l (small s e) fuel (omega (arith, bound s e));
        bound = omega (arith, bound s e, taken_le code sound l (small s e));
      };
    }
  where
    bound : (s : List ℕ) → check_sheet s ≡ Accepted → taken_bound (length (keyed (code_of s))) (locals_of s) ≡ bound_of s
    bound s e = ap (λ (x : ℕ). taken_bound x (locals_of s)) (keys_blocks (code_of s) (code_sound s e))

    small : (s : List ℕ) → check_sheet s ≡ Accepted → (r : Bytecode) (m : ℕ) → Memᴰ r (code_of s) → m < 2 ^ locals_of s → execute r m < 2 ^ locals_of s
    small s e r m i h = transfer_lt (locals_of s) r m (locals_lt s e r i) h

-- whatever else obeys the rules and is least is the same: another engine gives the same sets
pub unique : (s : List ℕ) → check_sheet s ≡ Accepted → (b a : ℕ → ℕ) → Obeys (code_of s) b a
    → ((b' a' : ℕ → ℕ) → Obeys (code_of s) b' a' → (k : ℕ) → k < length (code_of s) → Sub (b k) (b' k) × Sub (a k) (a' k))
    → (k : ℕ) → k < length (code_of s) → ((get_or (analyze (code_of s) (locals_of s)).info k no_info).before ≡ b k) × ((get_or (analyze (code_of s) (locals_of s)).info k no_info).after ≡ a k)
unique s e b a ob least k h =
    let t = term3 s e in
    let ours = t.least b a ob k h in
    let theirs = least _ _ t.obeys k h in
    (sub_antisymm ours.0 theirs.0, sub_antisymm ours.1 theirs.1)
