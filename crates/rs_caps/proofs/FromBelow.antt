-- The lemmas of the crates below that the proofs here cite.
pub use Rattle.rs_time.proofs.ForCallers.{moment_text-bytes, read_moment-text}
pub use Rattle.rs_fixity.proofs.ForCallers.{cut_value, hash_text-passes, lacks_by, read_hash-text, strip_own, then_gave, then_some}
pub use Rattle.rs_record.proofs.ForCallers.{base_clean, media_type_lacks, name_clean, same_change}
pub use Rattle.rs_model.proofs.ForCallers.{all_after, all_dropped, all_taken, first_rises, last_joined, recorded-append, recorded_first, rises_after, same_name, walk-append}
pub use Rattle.rs_lists.proofs.ForCallers.{parts_cover, parts_tight, scale}
