use Rattle.std.proofs.Common.{◌≡◌, ◌++◌, length, flat_map, All}
use Rattle.rs_directory.specs.Directory.{ref_bytes, IsLawfulRef}
use Rattle.rs_directory.proofs.reading.refs_of.Given as goal

abbrev pub invariant-loop-entry : goal.invariant-loop-entry
invariant-loop-entry l =
    record {
      lawful : All IsLawfulRef l.refs.items;
      found : l.bytes ≡ flat_map ref_bytes l.refs.items ++ l.rest;
    }

abbrev pub decreases-loop-entry : goal.decreases-loop-entry
decreases-loop-entry l = length l.rest
