-- A box in the lists of the cells that it covers.
pub mod Meaning
pub mod Inner
