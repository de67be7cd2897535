use Rattle.std.proofs.Common.{◌≡◌, ℕ, ◌*◌, rules}
use Rattle.base.specs.Bytes.{number, part}
use Rattle.dataflow_domains.specs.Sets.{mask}
use Rattle.dataflow_domains.specs.ByteWords.{bytes_mask}
use Rattle.dataflow_domains.proofs.Made.{each_made}
use Rattle.dataflow_domains.proofs.LiveVarState.load_bytes.Goals as goal

pub returns : goal.returns
unfolding mask
returns c =
    let made = c.from_fn.ensures.items in
    bytes_mask c.args.p.now _ c.requires made.long (λ j h. each_made _ (λ (j w : ℕ). w ≡ number (part c.args.p.now (8 * j) 8)) _ (λ i y q k. search rules) _ _ made j 0 h)
