use Rattle.std.proofs.Common.{arith}
use Rattle.rs_directory.proofs.Pieces.{seven_joined}
use Rattle.rs_directory.proofs.format.directory_bytes.Goals as goal

pub returns-clause-bytes : goal.returns-clause-bytes
returns-clause-bytes c = record {
  lawful = record {
    of_header = c.append_header.ensures.lawful;
    of_catalogue = record { each = c.append_refs.ensures.lawful; count = omega (arith, c.requires.catalogue) };
    of_changes = record { each = c.append_refs-2.ensures.lawful; count = omega (arith, c.requires.changes) };
    of_published = record { each = c.append_refs-3.ensures.lawful; count = omega (arith, c.requires.published) };
  };
  spelled = seven_joined _ _ _ _ _ _ _ _ _ _ _ _ _ _ _ _ c.in_ok-out.ensures.items c.append_header.ensures.items c.append_count.ensures.items
      c.append_count-2.ensures.items c.append_count-3.ensures.items
      c.append_refs.ensures.items c.append_refs-2.ensures.items c.append_refs-3.ensures.items;
}
