-- Laws of bytes that are written, and of a file that is put together.
pub mod Bytes
pub mod Writing
pub mod Classwise
pub mod Appended
pub mod Whole
pub mod Rows
pub mod Own
pub mod Room
