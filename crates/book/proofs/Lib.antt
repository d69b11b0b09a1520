-- Laws of the book's definitions, for the proofs of this crate and of the crates above it.
pub mod Placing
pub mod Chunks
pub mod Cutting
pub mod Bodies
pub mod Walking
pub mod Searching
pub mod Passing
pub mod Numbers
pub mod Terms
pub mod Acceptance
pub mod Handing
pub mod ClassRows
pub mod Faults
