-- By a law over every length, so that nothing counts the bytes.
use Rattle.std.proofs.Common.{ℕ}
use Rattle.std.proofs.lemmas.List.{length-replicate}
use Rattle.replay.proofs.file_room.Goals as goal

pub returns : goal.returns
returns c = length-replicate {A = ℕ} 2097152 0
