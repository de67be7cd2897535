use Rattle.std.proofs.Common.{refl, ap, ◌∙◌, ◌≡◌, List, ℕ, ◌+◌, ◌*◌, length, take, length-take-le, get_or-take, arith}
use Rattle.std.proofs.lemmas.List.{length-replicate}
use Rattle.base.specs.Sizes.{max_instructions, pair_bytes}
use Rattle.sheet.specs.Layout.{locals_of}
use Rattle.sheet.specs.Code.{code_in}
use Rattle.sheet.specs.declared.accepted.ResolvedSheet.{ResolvedSheet}
use Rattle.stackless_control_flow_graph.specs.Graph.{GraphTables}
use Rattle.livevar_analysis.specs.PreparedLaws.{blank_sets, solve_input, key_sets, live_written}
use Rattle.live.proofs.analysis.analyze.Goals as goal

-- the keys of the offsets alone
module _ (sheet : ResolvedSheet) {m : ℕ} {lows ups keys firsts edges : List ℕ} (graph : GraphTables (code_in sheet) m lows ups keys firsts edges) where
  all : length (take sheet.count keys) ≡ sheet.count
  all = length-take-le sheet.count keys (omega (arith, sheet.size, graph.keys.long))

  cut : GraphTables (code_in sheet) m lows ups (take sheet.count keys) firsts edges
  cut = record {
    count = graph.count;
    bounds = graph.bounds;
    keys = record { long = omega (arith, all, sheet.size); each = λ k h. get_or-take sheet.count keys k 0 (omega (arith, sheet.size)) ∙ graph.keys.each k h };
    leads = graph.leads;
  }

pub solve-taken-requires : goal.solve-taken-requires
solve-taken-requires c =
    let sheet = c.args.sheet in
    let graph = c.graph_of.ensures in
    record {
      code = code_in sheet;
      locals = locals_of sheet.bytes.now;
      input = solve_input sheet.checked (rw c.accepted.ensures.bytes at c.decode_rules.ensures) (c.decode_rules.auto.rules ∙ length-replicate max_instructions c.none-rules.result) graph (length-replicate (max_instructions + 2) c.empty-sets.result) _ refl refl refl refl refl (blank_sets (max_instructions + 2) c.empty-sets.result c.empty-sets.ensures);
    }

pub write_info-requires : goal.write_info-requires
write_info-requires c =
    let sheet = c.args.sheet in
    let long = c.decode_rules.auto.rules ∙ length-replicate max_instructions c.none-rules.result in
    let graph = c.graph_of.ensures in
    rw (all sheet graph) (record {
      rules = omega (arith, sheet.few, long);
      sets = key_sets sheet.checked (rw c.accepted.ensures.bytes at c.decode_rules.ensures) long (cut sheet graph) (c.solve-taken.auto.sets ∙ length-replicate (max_instructions + 2) c.empty-sets.result);
      room = omega (arith, c.requires, ap (λ (x : ℕ). pair_bytes * x) sheet.size);
    })

pub returns : goal.returns
returns c =
    let sheet = c.args.sheet in
    let long = c.decode_rules.auto.rules ∙ length-replicate max_instructions c.none-rules.result in
    let graph = c.graph_of.ensures in
    let solved = c.solve-taken.ensures (code_in sheet) (locals_of sheet.bytes.now) (solve_input sheet.checked (rw c.accepted.ensures.bytes at c.decode_rules.ensures) long graph (length-replicate (max_instructions + 2) c.empty-sets.result) _ refl refl refl refl refl (blank_sets (max_instructions + 2) c.empty-sets.result c.empty-sets.ensures)) in
    live_written sheet.checked (rw c.accepted.ensures.bytes at c.decode_rules.ensures) long (cut sheet graph) solved (rw (all sheet graph) at c.write_info.ensures)
