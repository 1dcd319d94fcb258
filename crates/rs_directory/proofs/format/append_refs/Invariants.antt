use Rattle.std.proofs.Common.{◌≡◌, ◌≤◌, ◌+◌, ◌*◌, ◌++◌, vec_len, vec_capacity, take, flat_map, All}
use Rattle.rs_directory.specs.Directory.{ref_bytes, IsLawfulRef}
use Rattle.rs_directory.proofs.format.append_refs.Given as goal

abbrev pub invariant-loop-entry : goal.invariant-loop-entry
invariant-loop-entry l =
    record {
      items : l.out.items ≡ l.fn.out.items ++ flat_map ref_bytes (take l.entry-index l.refs);
      len : vec_len l.out ≡ vec_len l.fn.out + 44 * l.entry-index;
      capacity : vec_capacity l.fn.out ≤ vec_capacity l.out;
      lawful : All IsLawfulRef (take l.entry-index l.refs);
    }
