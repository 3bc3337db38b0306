-- What must be believed: what the public calls and the demands cite.
pub mod Searches
pub mod Lent
