-- What only inner contracts cite.
pub mod Alike
pub mod Spread
