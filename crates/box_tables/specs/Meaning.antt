-- What must be believed: what the public calls and the demands cite.
pub mod Decide
pub mod Holds
pub mod Outcome
pub mod Tables
