-- The records of the input out of its blocks.
pub mod Meaning
