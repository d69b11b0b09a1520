-- Laws of swap legs that fit, and of the rows without such pairs.
pub mod Fitting
pub mod Stepping
pub mod Left
