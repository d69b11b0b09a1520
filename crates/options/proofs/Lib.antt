-- Laws of option tables: what an accepted one holds, the book of its deltas, and its charges for gamma and vega.
pub mod Ranges
pub mod Rounding
pub mod Whole
pub mod Together
pub mod Limits
pub mod Walking
pub mod Bytes
pub mod Gathering
pub mod Outcome
