-- What only inner contracts cite.
pub mod Counts
pub mod Pass
