-- Decimals as bytes: what the text of a number is, how a field is read back, and what writing it at a place of a buffer leaves.
pub mod Meaning
pub mod Inner
