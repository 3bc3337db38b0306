-- The records of an input, and how they are found byte by byte.
pub mod Meaning
pub mod Inner
