-- The lemmas of the crates below that the proofs here cite.
pub use Rattle.rs_record.proofs.ForCallers.{AreBytes, IsFormat, Takes, alone, bind_some, concat-onto, counted, guard_some, moment, number_2, number_4, number_8, number_none, one_more, piece, piece_none_of, piece_read, some_is, takes_as}
