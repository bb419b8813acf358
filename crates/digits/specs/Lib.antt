-- What digits write.
pub mod Numbers
