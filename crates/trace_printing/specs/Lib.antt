-- An answer as a record of bytes.
pub mod Meaning
pub mod Inner
