-- Each claim used once, in plain words: numbers written out, premises built from their parts, every conclusion taken. A claim that says less does not give it.
pub mod Books
pub mod Joins
pub mod Written
pub mod Bytes
pub mod Requests
