use Rattle.base.specs.Sizes.{set_bytes}
use Rattle.base.specs.Bytes.{bytes_of}
use Rattle.dataflow_domains.specs.Sets.{mask}
use Rattle.dataflow_domains.specs.ByteLaws.{bytes_length}
use Rattle.base.specs.WriteLaws.{fill_two}
use Rattle.std.proofs.Common.{rules}
use Rattle.livevar_output.proofs.output.put_info.Goals as goal

pub returns : goal.returns
returns c =
    let s = c.args in
    fill_two set_bytes s.out.now c.store_bytes.new.out c.store_bytes-2.new.out (bytes_of set_bytes (mask s.before)) (bytes_of set_bytes (mask s.after)) (search rules) (bytes_length set_bytes (mask s.before)) c.store_bytes.ensures c.store_bytes-2.ensures
