-- The lemmas of this crate, by file.
pub mod Small
pub mod Rising
pub mod Scaling
pub mod Near
pub mod Bounds
pub mod Lawful
pub mod Answering
