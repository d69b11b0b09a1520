-- The bytes of a book, from its counts and rows, bytes written over others, and a call that writes a book.
pub mod Written
pub mod Files
pub mod Room
