use Rattle.std.proofs.Common.{◌≡◌, take}
use Rattle.rs_catalogue.specs.Catalogue.{records_of}
use Rattle.rs_store.proofs.reading.records_in.Given as goal

abbrev pub invariant-loop-i : goal.invariant-loop-i
invariant-loop-i l = l.records.items ≡ take l.i (records_of l.catalogue)
