-- What a search finds, and what it writes of it.
pub mod Meaning
pub mod Inner
