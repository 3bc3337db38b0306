-- What must be believed: what the public calls and the demands cite.
pub mod Maintain
pub mod Moved
pub mod Walk
