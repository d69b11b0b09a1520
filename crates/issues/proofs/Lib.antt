-- Laws of netted rows, for the crates above.
pub mod Walking
pub mod Counted
pub mod Thinning
pub mod Kept
pub mod Again
pub mod Agreeing
pub mod Costs
pub mod Comparing
