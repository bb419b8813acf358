-- What the program's input means, and what is said of input that cannot be read.
pub mod Pieces
pub mod Numbers
pub mod Meaning
pub mod Plain
pub mod Shown
