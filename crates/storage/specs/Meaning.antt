-- What must be believed: what the public calls and the demands cite.
pub mod CellTable
pub mod Entries
pub mod Keyed
pub mod Packed
pub mod Walk
