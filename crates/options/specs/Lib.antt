-- What an option table means: its rows, whom it tells no, the book of its deltas, and the charges for gamma and vega.
pub mod Table
pub mod Refusals
pub mod Accepted
pub mod Delta
pub mod Greeks
pub mod Options
pub mod Inner
