-- What an instruction of each kind does to the live sets. Assumes nothing.
use Rattle.std.specs.Prelude.{◌≡◌, ℕ, ◌^◌, get_or}
use Rattle.dataflow_domains.specs.Mask.{minus, set_of}
use Rattle.stackless_bytecode.specs.declared.Bytecode.{Bytecode}
use Rattle.stackless_bytecode.specs.Kinds.{Assign, Load, srcs_of}
use Rattle.livevar_analysis.specs.Live.{assigned, execute}

-- ---- the live rules

pub assign_rule : (r : Bytecode) (m : ℕ) → r.kind ≡ Assign → execute r m ≡ assigned (get_or r.dsts 0 0) (set_of (srcs_of r)) m
unfolding execute
assign_rule r m e = rw e

pub load_rule : (r : Bytecode) (m : ℕ) → r.kind ≡ Load → execute r m ≡ minus m (2 ^ get_or r.dsts 0 0)
unfolding execute
load_rule r m e = rw e
