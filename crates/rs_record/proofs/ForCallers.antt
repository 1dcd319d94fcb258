-- The lemmas that the crates above may cite.
pub use Rattle.rs_record.proofs.Answered.{alone}
pub use Rattle.rs_record.proofs.ChangeLaws.{a_change}
pub use Rattle.rs_record.proofs.Changes.{same_change}
pub use Rattle.rs_record.proofs.Clean.{base_clean, media_type_lacks, name_clean}
pub use Rattle.rs_record.proofs.FieldLaws.{AreBytes, IsFormat, Takes, bind_some, concat-onto, counted, guard_some, moment, number_2, number_4, number_8, number_none, one_more, piece, piece_none_of, piece_read, some_is, takes_as}
pub use Rattle.rs_record.proofs.FormatLaws.{a_record}
pub use Rattle.rs_record.proofs.Pieces.{length-record_bytes}
