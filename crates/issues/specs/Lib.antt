-- The netted rows of a class, and which rows of one issue cannot be netted.
pub mod Issues
pub mod Agreeing
pub mod Comparing
