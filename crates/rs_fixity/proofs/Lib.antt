pub mod ForCallers
pub mod CutLemmas
pub mod DigestBytes
pub mod HashTexts
