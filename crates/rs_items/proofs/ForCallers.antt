-- The lemmas that the crates above may cite.
pub use Rattle.rs_items.proofs.FieldLemmas.{fields-cut, fields-last, fields-zero, position-none, position-some}
pub use Rattle.rs_items.proofs.ItemLemmas.{other_word as no_item}
