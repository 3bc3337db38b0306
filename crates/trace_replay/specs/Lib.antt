-- A record replayed: what the two grids answer to it.
pub mod Meaning
pub mod Inner
