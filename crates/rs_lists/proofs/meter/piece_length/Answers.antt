use Rattle.std.proofs.Common.{refl}
use Rattle.rs_lists.proofs.Lengths.{length-moment_text}
use Rattle.rs_lists.proofs.meter.piece_length.Goals as goal

pub returns-in-At : goal.returns-in-At
returns-in-At c = rw (c.in-At.is, length-moment_text) refl
