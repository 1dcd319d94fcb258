-- The lemmas of the crates below that the proofs here cite.
pub use Rattle.rs_fixity.proofs.ForCallers.{md5-bytes, sha256-bytes}
pub use Rattle.rs_extent.proofs.ForCallers.{apart_behind, apart_between, apart_both, apart_front, in_one, narrowed, none_front, not_both, not_true, some_behind, some_first, some_front, some_of_both, some_rest, some_split, taken_both, taken_free, taken_is_given_back, taken_none, turned, within_is, within_true}
pub use Rattle.rs_record.proofs.ForCallers.{length-record_bytes, same_change}
pub use Rattle.rs_model.proofs.ForCallers.{all_after, at_most_if, below_if, dropped_within, few_parts, is_less, last_later, length-bind, no_causes, other-bind, other-unbind, rest_rises, rises_after, same_name, swapped, tail_ordered, value-bind}
pub use Rattle.rs_pages.proofs.ForCallers.{above_lower, bound-each, each_page, found-each, found_at_home, items_of-each, touching_keeps, unbound-each}
pub use Rattle.rs_catalogue.proofs.ForCallers.{map_values-bind, map_values-unbind, value-map_values}
pub use Rattle.rs_directory.proofs.ForCallers.{length-directory_bytes}
pub use Rattle.rs_image.proofs.ForCallers.{HasItems, count_refs, few_catalogue, few_history}
