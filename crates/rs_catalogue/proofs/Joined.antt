-- The pages of a catalogue, joined.
pub use Rattle.rs_catalogue.proofs.FromBelow.{joined}
