-- Laws of texts that are written piece by piece.
pub mod Pieces
