-- What joining writes, and whom it tells no.
pub mod Joined
