-- What the queries of a box grid find.
pub mod Meaning
pub mod Inner
