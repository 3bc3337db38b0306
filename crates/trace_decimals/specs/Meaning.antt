-- What must be believed: what the public calls and the demands cite.
pub mod Fields
pub mod Text
pub mod Written
