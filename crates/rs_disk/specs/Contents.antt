-- The content of a memory disk as a medium.
use Rattle.rs_disk.specs.declared.contents.HeldBytes.{HeldBytes}
use Rattle.rs_disk.specs.Medium.{Medium}

-- the medium of a memory disk's content
abbrev pub medium_of : HeldBytes → Medium
medium_of c = record { seen = c.seen.items; settled = c.settled.items; unsettled = c.unsettled.items }
