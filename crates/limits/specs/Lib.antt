-- The definitions of this crate, by file.
pub mod Capital
pub mod Rules
pub mod Limits
pub mod Counting
pub mod Tapering
