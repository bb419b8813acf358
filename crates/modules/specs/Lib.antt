-- The definitions of this crate, by file.
pub mod Sheets
pub mod Trees
pub mod Bounds
pub mod Answers
pub mod Gathered
pub mod Made
pub mod Rooted
pub mod Charged
pub mod Charging
pub mod Lists
pub mod Units
pub mod Rooting
pub mod Answering
pub mod Close
