-- What the dearest book is, what it costs, and whom its call tells no.
pub mod Dearest
pub mod Inner
