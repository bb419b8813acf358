-- The definitions of this crate, by file.
pub mod Classes
pub mod Ratios
