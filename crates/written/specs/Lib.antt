-- The definitions of this crate, by file.
pub mod Reading
pub mod Making
pub mod Taking
pub mod Walking
pub mod Known
pub mod Forests
pub mod Standing
