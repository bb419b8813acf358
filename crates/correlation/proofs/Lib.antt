-- The lemmas of this crate, by file.
pub mod Sums
pub mod Magnify
pub mod Laws
pub mod Places
pub mod Lawful
pub mod Squares
pub mod Computed
pub mod Standing
pub mod Ranges
