-- What must be believed: what the public calls and the demands cite.
pub mod Fields
pub mod Requests
pub mod Taken
pub mod Words
