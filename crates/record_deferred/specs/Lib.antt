-- What the calls on a table of records leave and answer.
pub mod Meaning
pub mod Inner
