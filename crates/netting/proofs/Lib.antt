-- Laws of netting a book, for the proofs of this crate and of the crates above it.
pub mod Places
pub mod Standing
pub mod Keeping
pub mod FirstRows
pub mod Sides
pub mod Adding
pub mod Tallied
pub mod Entries
pub mod Settling
pub mod Limits
pub mod Numbers
pub mod Netting
pub mod Found
pub mod Classes
pub mod Outcome
pub mod Answers
