-- The map for the encoder: what `fill_map` answers and writes.
pub mod Meaning
pub mod Inner
