-- A ladder table as bytes: what it holds, and why it is refused.
pub mod Loaded
pub mod Inner
