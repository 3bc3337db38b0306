-- The cell rule, ranges of cells and the keys of cells: the arithmetic of `src/storage.rs`.
pub mod Meaning
pub mod Inner
