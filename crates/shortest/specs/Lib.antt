-- What the shortest file that shows a refusal is, and whom its call tells no.
pub mod Shortest
pub mod Inner
