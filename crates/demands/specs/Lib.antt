-- The three demands, and the definitions that only they need.
pub mod Meaning
