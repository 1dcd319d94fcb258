pub mod ForCallers
pub mod FieldLemmas
pub mod ItemLemmas
