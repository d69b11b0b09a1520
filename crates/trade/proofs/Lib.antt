-- Laws of the search for the least amount.
pub mod Searching
pub mod Sides
pub mod Opening
pub mod Halving
pub mod Outcome
