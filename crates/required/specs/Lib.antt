-- The definitions of this crate, by file.
pub mod Ranges
pub mod Figures
pub mod Exact
pub mod Laws
pub mod Answers
