-- What the reading calls answer.
pub mod Meaning
