-- The lemmas of this crate, by file.
pub mod Charged
pub mod Heads
pub mod Suffixes
pub mod Answered
pub mod Walked
pub mod Counted
