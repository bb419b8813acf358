-- The definitions of this crate, by file.
pub mod Towers
pub mod Tall
