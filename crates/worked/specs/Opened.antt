-- Every definition that the worked sheets compute through, opened by one name: a proof by computation says `unfolding opened`.
-- Made by tools/believed --opened. Assumes nothing.
use Rattle.base.specs.Lists.{tab, keep, count, total, joins, sum, place, firsts, first_bad}
use Rattle.base.specs.Bytes.{number, bytes_of}
use Rattle.dataflow_domains.specs.Mask.{bit, holds, union, minus, set_of, unions}
use Rattle.dataflow_analysis.specs.Worklist.{news, joined, receive, begin, popped, step, run}
use Rattle.stackless_bytecode.specs.Kinds.{dsts_of, srcs_of, is_exit, is_flagged, stop_ok, falls_through, is_branch, branch_dests, label_of}
use Rattle.stackless_bytecode.specs.Labels.{lookup}
use Rattle.stackless_bytecode.specs.Successors.{ascending, successors}
use Rattle.sheet.specs.Layout.{block_at, check_of, count_of, locals_of, user_locals_of, parameters_of, refs_of, record_blocks, decode, instruction_at, code_of, padded, encode, block_of, body_of, sheet_of}
use Rattle.sheet.specs.Checks.{length_ok, block_ok, heading_ok, fits, record_ok, place_ok, locals_ok, fresh, names_ok, check_form, check_code, check_sheet}
use Rattle.stackless_control_flow_graph.specs.Blocks.{starts, lowers, blocks_of, lower_of, up_from, upper_of, keyed, key_of, row, flow_table, flow_reply}
use Rattle.stackless_control_flow_graph.specs.Backward.{nexts_of, times, preds_from, leads_to}
use Rattle.livevar_analysis.specs.Live.{assigned, called, execute}
use Rattle.livevar_analysis.specs.Analysis.{execute_all, rest_of, out_of, analyze_function, info_of, analyze, live_bytes, live_reply}
use Rattle.livevar_transform.specs.Rewrite.{destroys, destroy_block, block_size, is_dead, is_merged, is_dropped, target_of, highest, next_free_label, next_free_attr, lost_refs, is_losing, label_for, attr_for, goes_to, stands_for, kept_code, block_on, added_code, transform_code, numbers_fit, rewrite_reply}
use Rattle.eliminate_unused_vars.specs.Remap.{mentions, staying, new_number, remap, remap_set}
use Rattle.eliminate_unused_vars.specs.Renumber.{hides_local, renumbered_rest, renumber_reply}
use Rattle.label.specs.LabelCall.{label_value, label_reply}
use Rattle.borrow_analysis.specs.Graph.{graph_of, nodes_ok, rank, triple_ok, triples_bad, check_asked, check_graphs}
use Rattle.borrow_analysis.specs.Borrows.{get_parents, incoming, parents_in, upward, above, is_in_use, many_in, is_conditional, collect_ancestors, dying_nodes_at, dying_nodes, in_use_reply, conditional_reply, dying_reply}
use Rattle.ancestors.specs.Ancestors.{end_of, put, take_off, first_new, one_step, walk, start_at}
use Rattle.listing.specs.Words.{hex_digit, hex}
use Rattle.listing.specs.Lines.{line, lines, text_of, refused_numbers, refused_text, printed, livelist}
use Rattle.class_set.specs.ClassSet.{starts_at, starts_of, sheet_at, check_class, answers_reply}
use Rattle.pages.specs.Words.{marked, listed}
use Rattle.pages.specs.Code.{names, destinations, branch_labels, labels, sources, aborting, does, takes, code_line, locals_below, counts, heading_text, code_lines, code_text}
use Rattle.pages.specs.Page.{block_line, block_lines, flow_text, unnamed_text, unnamed_labels, unnamed_line, set_text, live_line, live_text, rewritten_text, sections, page_by, page}
use Rattle.worked.specs.Samples.{heading_of, plain, flagged, m1, m2, m2_unnamed, m3, m4, m5, m6, m4_new, m5_new, m6_new, chain}

unfoldable pub opened : Unit {0}
unfolding tab keep count total joins sum place firsts first_bad number bytes_of bit holds union minus set_of unions news joined receive begin popped step run dsts_of srcs_of is_exit is_flagged stop_ok falls_through is_branch branch_dests label_of lookup ascending successors block_at check_of count_of locals_of user_locals_of parameters_of refs_of record_blocks decode instruction_at code_of padded encode block_of body_of sheet_of length_ok block_ok heading_ok fits record_ok place_ok locals_ok fresh names_ok check_form check_code check_sheet starts lowers blocks_of lower_of up_from upper_of keyed key_of row flow_table flow_reply nexts_of times preds_from leads_to assigned called execute execute_all rest_of out_of analyze_function info_of analyze live_bytes live_reply destroys destroy_block block_size is_dead is_merged is_dropped target_of highest next_free_label next_free_attr lost_refs is_losing label_for attr_for goes_to stands_for kept_code block_on added_code transform_code numbers_fit rewrite_reply mentions staying new_number remap remap_set hides_local renumbered_rest renumber_reply label_value label_reply graph_of nodes_ok rank triple_ok triples_bad check_asked check_graphs get_parents incoming parents_in upward above is_in_use many_in is_conditional collect_ancestors dying_nodes_at dying_nodes in_use_reply conditional_reply dying_reply end_of put take_off first_new one_step walk start_at hex_digit hex line lines text_of refused_numbers refused_text printed livelist starts_at starts_of sheet_at check_class answers_reply marked listed names destinations branch_labels labels sources aborting does takes code_line locals_below counts heading_text code_lines code_text block_line block_lines flow_text unnamed_text unnamed_labels unnamed_line set_text live_line live_text rewritten_text sections page_by page heading_of plain flagged m1 m2 m2_unnamed m3 m4 m5 m6 m4_new m5_new m6_new chain
opened = tt
