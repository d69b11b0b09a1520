-- What the book file means: its fields, counts, bodies, rows and legs, who is refused and why, and what the reader hands to each class.
pub mod Fields
pub mod Counts
pub mod Rows
pub mod Legs
pub mod Refusals
pub mod Accepted
pub mod Reasons
pub mod Parts
pub mod Inner
