-- What only inner functions promise.
pub mod Places
pub mod Kept
pub mod Gathering
pub mod Nets
