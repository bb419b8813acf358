-- The definitions of this crate, by file.
pub mod Shown
pub mod Runs
