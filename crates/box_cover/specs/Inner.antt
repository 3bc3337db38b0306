-- What only inner contracts cite.
pub mod Taken
pub mod Walk
