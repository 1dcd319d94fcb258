-- The lemmas of the crates below that the proofs here cite.
pub use Rattle.rs_extent.proofs.ForCallers.{beside_between, beside_front, some_behind, some_first, some_front, some_rest, some_split, within_is, within_true}
pub use Rattle.rs_disk.proofs.ForCallers.{reading_as, reading_none, reading_then}
pub use Rattle.rs_body.proofs.ForCallers.{only_as, only_none, only_then}
pub use Rattle.rs_page.proofs.ForCallers.{written_stay}
pub use Rattle.rs_model.proofs.ForCallers.{is_less, ordered-bind, ordered-unbind, searched, swapped, tail_ordered, value-bind}
