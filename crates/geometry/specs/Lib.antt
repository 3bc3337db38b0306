-- The definitions that positions, circles and boxes go by, and the laws of binary32 that the grids need.
pub mod Meaning
pub mod Inner
