use Rattle.std.proofs.Common.{◌≡◌, ℕ, get_or, rules}
use Rattle.dataflow_domains.specs.Sets.{mask, lone}
use Rattle.dataflow_domains.specs.SetLaws.{lone_mask}
use Rattle.dataflow_domains.proofs.Made.{each_made}
use Rattle.dataflow_domains.proofs.LiveVarState.single.Goals as goal

pub returns : goal.returns
unfolding mask
returns c =
    let made = c.from_fn.ensures.items in
    lone_mask c.args.local _ c.requires made.long (λ j h. each_made _ (λ (j w : ℕ). w ≡ get_or (lone c.args.local) j 0) _ (λ i y q k. search rules) _ _ made j 0 h)
