-- What only inner contracts cite.
pub mod Check
pub mod Decide
pub mod Way
