-- What only inner functions promise.
pub mod Standing
pub mod Counting
pub mod Writing
pub mod Own
