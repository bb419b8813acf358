-- The definitions of this crate, by file.
pub mod Pieces
pub mod Tokens
pub mod Sketches
pub mod Steps
pub mod Spaced
pub mod Plain
pub mod Hexadecimal
pub mod Shown
