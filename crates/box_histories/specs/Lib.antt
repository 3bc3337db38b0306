-- Histories of the calls that change a box grid, and what holds after any of them.
pub mod Inner
