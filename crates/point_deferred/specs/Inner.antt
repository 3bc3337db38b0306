-- What only inner contracts cite.
pub mod Ask
pub mod Held
pub mod Ready
pub mod Rows
