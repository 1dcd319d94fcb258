use Rattle.std.proofs.Common.{All, take}
use Rattle.rs_catalogue.specs.Catalogue.{records_of}
use Rattle.rs_image.specs.Whole.{IsSoundRecord}
use Rattle.rs_image.proofs.whole.are_sound_records.Given as goal

abbrev pub invariant-loop-i : goal.invariant-loop-i
invariant-loop-i l = All (IsSoundRecord l.low l.high) (take l.i (records_of l.catalogue))
