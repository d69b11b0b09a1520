-- What the calls for other languages write.
pub mod Entries
