-- The blocks of the frame, and which block a cell is.
pub mod Meaning
pub mod Inner
