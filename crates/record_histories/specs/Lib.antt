-- Histories of calls on a table of records, beside the same on columns.
pub mod Inner
