-- The definitions of this crate, by file.
pub mod Words
pub mod Cursors
pub mod Grammar
pub mod Heads
pub mod Faults
pub mod Items
pub mod Steps
pub mod Places
