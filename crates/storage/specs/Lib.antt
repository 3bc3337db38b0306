-- The cell storage: a pool of entries that is kept sorted by cell key, each key's own entries in list order, and a table of the cells in
-- use. The definitions, and the finite map that they stand for.
pub mod Meaning
pub mod Inner
