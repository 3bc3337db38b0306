-- The point that is nearest to a centre.
pub mod Meaning
pub mod Inner
