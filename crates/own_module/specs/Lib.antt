-- The definitions of this crate, by file.
pub mod Notices
pub mod Noticed
pub mod Lone
