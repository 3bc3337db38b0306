-- The tables of a point grid, what it is for them to hold one, the parts of the check, and outcomes of calls.
pub mod Meaning
pub mod Inner
