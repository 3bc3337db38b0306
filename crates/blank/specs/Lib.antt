-- The rows and the map of slots that are all free: what building a grid starts from.
pub mod Meaning
