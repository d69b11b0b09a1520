-- What offsetting writes, and whom it tells no.
pub mod Offset
pub mod NetOffset
pub mod Inner
