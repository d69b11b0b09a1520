-- The rows of a book with other amounts: all of it only what inner functions promise.
pub mod Inner
