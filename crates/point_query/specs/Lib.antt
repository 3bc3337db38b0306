-- What the queries find.
pub mod Meaning
pub mod Inner
