-- The definitions of this crate, by file.
pub mod Standard
pub mod Parts
pub mod Standing
