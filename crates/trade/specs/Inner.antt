-- What only inner functions promise.
pub mod Sides
pub mod Searching
pub mod Opened
