-- What only inner contracts cite.
pub mod Append
pub mod Checked
pub mod Insert
pub mod Keyed
pub mod Places
pub mod Pooled
pub mod Run
pub mod Sort
pub mod Sought
pub mod Store
pub mod Tables
pub mod Tail
pub mod Window
