use Rattle.std.proofs.Common.{sym, ap, ◌∙◌, arith}
use Rattle.dataflow_domains.specs.Mask.{set_of}
use Rattle.stackless_bytecode.specs.Kinds.{srcs_of}
use Rattle.livevar_analysis.specs.DecodeLaws.{listed, decoded_assign, decoded_load, decoded_sources, none_is}
use Rattle.livevar_analysis.proofs.rules.rule_of.Goals as goal

pub set_of-requires : goal.set_of-requires
unfolding srcs_of
set_of-requires c = listed c.requires.srcs c.sources.ensures

pub set_of-requires-in-2 : goal.set_of-requires-in-2
unfolding srcs_of
set_of-requires-in-2 c = listed c.requires.srcs c.sources-in-2.ensures

pub returns-in-0 : goal.returns-in-0
returns-in-0 c m = decoded_assign _ _ _ m c.in-0.is c.single.ensures (c.set_of.ensures ∙ ap set_of c.sources.ensures)

pub returns-in-2 : goal.returns-in-2
returns-in-2 c m = decoded_sources _ _ _ m c.in-2.is c.empty.ensures (c.set_of-in-2.ensures ∙ ap set_of c.sources-in-2.ensures)

pub returns-in-3 : goal.returns-in-3
returns-in-3 c m = decoded_load _ _ _ m c.in-3.is c.single-in-3.ensures c.empty-in-3.ensures

pub returns-in-5-to-6 : goal.returns-in-5-to-6
returns-in-5-to-6 c m =
    c.none.ensures m ∙ sym (none_is c.args.r 0 0 m (λ e. grind arith) (λ e. grind arith) (λ e. grind arith) (λ e. grind arith) (λ e. grind arith) (λ e. grind arith) (λ e. grind arith))

pub returns-in-8-to-10 : goal.returns-in-8-to-10
returns-in-8-to-10 c m =
    c.none-in-8-to-10.ensures m ∙ sym (none_is c.args.r 0 0 m (λ e. grind arith) (λ e. grind arith) (λ e. grind arith) (λ e. grind arith) (λ e. grind arith) (λ e. grind arith) (λ e. grind arith))

pub returns-in_default : goal.returns-in_default
returns-in_default c m =
    c.none-in_default.ensures m ∙ sym (none_is c.args.r 0 0 m (λ e. grind arith) (λ e. grind arith) (λ e. grind arith) (λ e. grind arith) (λ e. grind arith) (λ e. grind arith) (λ e. grind arith))
