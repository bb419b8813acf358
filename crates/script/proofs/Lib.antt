-- Lemmas that the proofs share.
pub mod Behind
pub mod Turns
pub mod Back
pub mod FirstWord
