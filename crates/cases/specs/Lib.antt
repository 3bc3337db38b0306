-- The worked rows of document 01.
pub mod Inner
