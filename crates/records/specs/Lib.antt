-- The table of records and the columns: spread, gathered, what is seen of a call on records, and columns with the same records.
pub mod Meaning
pub mod Inner
