-- What only inner contracts cite.
pub mod Asked
pub mod Begun
pub mod Fill
pub mod Places
