-- What only inner functions promise.
pub mod Reading
pub mod Writing
pub mod Sums
