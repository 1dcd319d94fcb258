use Rattle.std.proofs.Common.{◌≡◌, take, map}
use Rattle.rs_catalogue.specs.Catalogue.{records_of}
use Rattle.rs_copy.specs.Laying.{as_published}
use Rattle.rs_copy.proofs.listing.published_records.Given as goal

abbrev pub invariant-loop-i : goal.invariant-loop-i
invariant-loop-i l = l.records.items ≡ map (as_published (records_of l.held)) (take l.i (records_of l.published))
