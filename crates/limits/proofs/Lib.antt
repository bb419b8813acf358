-- The lemmas of this crate, by file.
pub mod Answering
