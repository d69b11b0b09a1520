-- Laws of the joined book, of who is told no, and of what a join leaves in the output.
pub mod JoinedBook
pub mod Settling
pub mod Outcome
