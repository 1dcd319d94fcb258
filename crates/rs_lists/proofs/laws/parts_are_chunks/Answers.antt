use Rattle.rs_lists.proofs.Chunks.{parts_are}
use Rattle.rs_lists.proofs.laws.parts_are_chunks.Goals as goal

pub returns : goal.returns
returns g c = parts_are
