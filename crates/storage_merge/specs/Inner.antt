-- What only inner contracts cite.
pub mod Buckets
pub mod Grown
pub mod Rows
pub mod Spot
