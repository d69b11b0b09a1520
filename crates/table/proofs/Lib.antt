-- Laws of ladder tables as bytes.
pub mod Accepting
