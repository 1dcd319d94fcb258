-- The lemmas that the crates above may cite.
pub use Rattle.rs_extent.proofs.InTurn.{taken_is_given_back}
pub use Rattle.rs_extent.proofs.Sets.{apart_behind, apart_between, apart_both, apart_front, beside_behind, beside_between, beside_first, beside_front, in_one, narrowed, none_behind, none_front, not_both, not_true, outside, some_behind, some_first, some_front, some_of_both, some_rest, some_split, turned, within_is, within_true}
pub use Rattle.rs_extent.proofs.Taken.{can_behind, can_front, taken_before, taken_both, taken_free, taken_none}
