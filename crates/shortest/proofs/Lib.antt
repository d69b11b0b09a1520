-- Laws of the call: the file that it writes, by the number and the row of the refusal.
pub mod Outcome
pub mod Shows
