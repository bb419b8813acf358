-- The lemmas of this crate, by file.
pub mod Parts
pub mod Opened
pub mod Heading
pub mod OneTree
pub mod OneFault
pub mod Reading
pub mod Exactly
pub mod Settled
