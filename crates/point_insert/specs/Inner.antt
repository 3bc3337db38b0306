-- What only inner contracts cite.
pub mod Fresh
pub mod Insert
