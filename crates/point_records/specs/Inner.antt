-- What only inner contracts cite.
pub mod Decide
pub mod Kept
pub mod Listed
pub mod Occupied
pub mod Rows
