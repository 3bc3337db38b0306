-- What calls return, made of its numbers.
pub mod Meaning
pub mod Inner
