-- Sums over a list, the numbers of a span, and what holds of every element of a list.
pub mod Sums
pub mod Every
pub mod Inner
