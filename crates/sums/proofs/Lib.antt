-- Laws of cases, of every element, of sums, spans and tables, for the crates above.
pub mod Cases
pub mod Every
pub mod Sums
pub mod Spans
pub mod Tables
pub mod Filling
