-- What only the code's inner functions promise.
pub mod Tables
