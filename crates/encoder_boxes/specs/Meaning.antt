-- What must be believed: what the public calls and the demands cite.
pub mod Boxes
