-- What only inner contracts cite.
pub mod Puts
pub mod Said
