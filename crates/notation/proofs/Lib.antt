-- The lemmas of this crate, by file.
pub mod Runs
pub mod Cuts
pub mod Stops
pub mod Heads
pub mod Prefixes
pub mod Lists
pub mod Whole
pub mod Back
pub mod Hexes
pub mod Gaps
pub mod Blanks
pub mod Shows
