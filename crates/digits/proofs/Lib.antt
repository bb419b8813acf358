-- The lemmas of this crate, by file.
pub mod Saturates
pub mod Decimals
