-- What netting writes, and whom it tells no.
pub mod Netted
pub mod Inner
