use Rattle.std.proofs.Common.{ap, ℕ, ◌*◌}
use Rattle.base.specs.Sizes.{record_bytes}
use Rattle.livevar_transform.specs.NewCodeLaws.{all_written}
use Rattle.transform_code.proofs.write.transform_code.Goals as goal

pub returns : goal.returns
returns c =
    all_written _ _ _ _ _ _ _ _ _ c.put_all_kept-m.ensures.written (ap (λ (x : ℕ). record_bytes * x) c.put_all_kept-m.ensures.long) c.put_all_blocks.ensures
