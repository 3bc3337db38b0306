-- What must be believed: what the public calls and the demands cite.
pub mod Answers
pub mod Limits
pub mod Outcome
pub mod Refusals
pub mod Says
