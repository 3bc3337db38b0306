-- Histories of the calls that change a point grid, and what holds after any of them.
pub mod Inner
