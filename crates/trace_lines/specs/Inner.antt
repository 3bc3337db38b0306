-- What only inner contracts cite.
pub mod Cursor
pub mod Fields
pub mod Texts
