-- Laws of the dearest book.
pub mod Whole
pub mod Times
pub mod Costs
pub mod Outcome
