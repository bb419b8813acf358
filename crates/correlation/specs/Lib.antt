-- The definitions of this crate, by file.
pub mod Sums
pub mod Tables
pub mod Roots
pub mod Answers
