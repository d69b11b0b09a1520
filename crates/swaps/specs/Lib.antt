-- Which two swap legs fit, and the interest rows without such pairs.
pub mod Fitting
pub mod Offset
