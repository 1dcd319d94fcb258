-- The lemmas that the crates above may cite.
pub use Rattle.rs_body.proofs.KeptBlocks.{has_room, keeps_torn, outside_none, outside_on, part_kept, piece_follows}
pub use Rattle.rs_body.proofs.Only.{only_as, only_none, only_on, only_then, part_only}
pub use Rattle.rs_body.proofs.Sets.{fits_sized}
