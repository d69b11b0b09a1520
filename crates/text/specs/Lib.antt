-- The text of the program's answers, byte by byte.
pub mod Ascii
pub mod Lines
pub mod Inner
