-- Laws of the rows of a book with other amounts.
pub mod Tables
pub mod Standing
pub mod Parts
pub mod Bytes
pub mod Outcome
pub mod Filling
