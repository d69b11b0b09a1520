-- Laws of the call: pairs found by their numbers and dropped are the pairs of the definition.
pub mod Fits
pub mod Searching
pub mod Steps
pub mod Dropping
pub mod Outcome
