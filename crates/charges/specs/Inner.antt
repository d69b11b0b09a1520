-- What only inner functions promise.
pub mod Columns
pub mod Slots
pub mod Pass
pub mod Tables
pub mod Ladders
pub mod Answers
