-- The tables of a box grid, what it is for them to hold one, the check, and outcomes of calls.
pub mod Meaning
pub mod Inner
