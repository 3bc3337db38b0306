-- What only inner contracts cite.
pub mod Laid
pub mod Runs
pub mod Tags
