-- The rules, the graph and the run of an accepted sheet give what the definition gives. Assumes nothing.
use Rattle.std.specs.Prelude.{◌≡◌, refl, zero, suc, get_or, replicate, map, List, ◌++◌, ℕ, ◌+◌, ◌*◌, ◌≤◌, ◌<◌, length, take, drop}
use Rattle.std.proofs.Common.{sym, ◌∙◌, arith, ap}
use Rattle.base.specs.Sizes.{max_instructions, pair_bytes}
use Rattle.base.specs.ListLaws.{place_lt}
use Rattle.dataflow_domains.specs.Sets.{mask}
use Rattle.dataflow_domains.specs.declared.LiveVarState.{LiveVarState}
use Rattle.stackless_bytecode.specs.declared.Bytecode.{Bytecode}
use Rattle.stackless_bytecode.specs.Sound.{Sound}
use Rattle.sheet.specs.Layout.{code_of, locals_of}
use Rattle.sheet.specs.Accepted.{CheckedSheet}
use Rattle.stackless_control_flow_graph.specs.Blocks.{lower_of, keyed, key_of}
use Rattle.stackless_control_flow_graph.specs.BlockLaws.{lower_starts, lower_le, keyed_in}
use Rattle.stackless_control_flow_graph.specs.CheckedSheetLaws.{checked_shaped, checked_sound, checked_size}
use Rattle.stackless_control_flow_graph.specs.Graph.{GraphTables}
use Rattle.livevar_analysis.specs.Analysis.{analyze_function, analyze, live_bytes}
use Rattle.livevar_analysis.specs.declared.rules.Rule.{Rule}
use Rattle.livevar_analysis.specs.declared.tables.Tables.{Tables}
use Rattle.livevar_analysis.specs.Rules.{Ruled}
use Rattle.livevar_analysis.specs.Engine.{SolveInput, Solved}
use Rattle.livevar_analysis.specs.InputLaws.{analyzable}
use Rattle.livevar_analysis.specs.Output.{infos_by, KeySets, Blocked}
use Rattle.livevar_analysis.specs.OutputLaws.{infos_live}
use Rattle.livevar_analysis.specs.RunLaws.{keys_few, sets_count}
use Rattle.livevar_analysis.specs.Prepared.{LiveWritten}

-- the key of an offset's block is one of the keys
pub key_inside : (code : List Bytecode) (k : ℕ) → k < length code → key_of (keyed code) (lower_of code k) < 2 + length (keyed code)
unfolding key_of
key_inside code k h =
    omega (arith, place_lt (lower_of code k) (keyed code) (keyed_in code (lower_of code k) (record { inside = omega (arith, lower_le code k); starts = lower_starts code k })))

-- ---- what analyze makes

-- a set for each key, all empty
pub blank_sets : (n : ℕ) (s : LiveVarState) → mask s ≡ 0 → (k : ℕ) → get_or (map mask (replicate n s)) k 0 ≡ 0
blank_sets zero s e k = refl
blank_sets (suc n) s e zero = e
blank_sets (suc n) s e (suc k) = blank_sets n s e k

module _ {s : List ℕ} {n : ℕ} {targets : List ℕ} (checked : CheckedSheet s n targets) where
  sound : Sound (code_of s)
  sound = checked_sound checked

  size : length (code_of s) ≡ n
  size = checked_size checked

  few : n ≤ max_instructions
  few = (checked_shaped checked).few

  few_keys : length (keyed (code_of s)) ≤ max_instructions
  few_keys = omega (arith, keys_few (code_of s) sound, size, few)

  module _ {rules : List Rule} (ruled : Ruled (code_of s) rules) (rules-long : length rules ≡ max_instructions)
      {m : ℕ} {lows ups keys firsts edges : List ℕ} (graph : GraphTables (code_of s) m lows ups keys firsts edges) where
    module _ {sets : List LiveVarState} (sets_long : length sets ≡ max_instructions + 2) where
      -- the tables of a run are these
      pub solve_input : (t : Tables) → t.rules.now ≡ rules → t.lower_of_key.now ≡ lows → t.upper_of_key.now ≡ ups → t.first_edge.now ≡ firsts → t.edges.now ≡ edges
          → ((k : ℕ) → get_or (map mask sets) k 0 ≡ 0) → SolveInput (code_of s) (locals_of s) t m sets
      solve_input t r l u f e blank = record {
        analyzable = analyzable s checked.accepted;
        tables = record { ruled = rw r ruled; room = omega (arith, size, few, rules-long, ap length r); bounds = rw (l, u) graph.bounds; leads_are = rw (f, e) graph.leads };
        count = graph.count;
        sets_fit = omega (arith, graph.count, few_keys);
        sets_blank = blank;
      }

      -- every key has a set
      pub key_sets : KeySets n keys sets
      key_sets = record {
        keys_fit = omega (arith, size, graph.keys.long);
        sets_fit = λ k h. let inside : k < length (code_of s) = omega (arith, size) in omega (arith, graph.keys.each k inside, key_inside (code_of s) k inside, few_keys);
      }

      -- what write_info asks for: a rule for each instruction, a set for every key, and room for the bytes
      pub can_write : (out : List ℕ) → pair_bytes * length (code_of s) ≤ length out → (n ≤ length rules) × KeySets n keys sets × (pair_bytes * n ≤ length out)
      can_write out fits = (omega (arith, few, rules-long), key_sets, omega (arith, ap (λ (x : ℕ). pair_bytes * x) size))

    -- ---- the sets after the run are written, however many there are

    pub live_written : {out out' : List ℕ} {sets : List LiveVarState} {r : ℕ} → Solved (code_of s) (locals_of s) r sets
        → ((code : List Bytecode) (ms : List ℕ) → n ≡ length code → Ruled code rules → Blocked code ms keys sets → out' ≡ live_bytes (infos_by code ms) ++ drop (pair_bytes * n) out)
        → LiveWritten s r out out'
    live_written {out} {out'} {sets} solved wrote = record {
      taken = unfold analyze in solved.taken;
      written = wrote (code_of s) ms (sym size) ruled blocked
          ∙ ap (λ (x : ℕ). live_bytes (infos_by (code_of s) ms) ++ drop (pair_bytes * x) out) (sym size)
          ∙ ap (λ is. live_bytes is ++ drop (pair_bytes * length (code_of s)) out) (infos_live (code_of s) (locals_of s));
    }
      where
        ms : List ℕ
        ms = (analyze_function (code_of s) (keyed (code_of s)) (locals_of s)).sets

        long : length ms ≡ 2 + length (keyed (code_of s))
        long = sets_count (code_of s) (locals_of s) (analyzable s checked.accepted)

        blocked : Blocked (code_of s) ms keys sets
        blocked = record {
          sound = sound;
          keys_are = graph.keys;
          keys_in = λ k h. omega (arith, long, graph.keys.each k h, key_inside (code_of s) k h);
          sets_are = ap (λ (x : ℕ). take x (map mask sets)) long ∙ solved.final;
        }
