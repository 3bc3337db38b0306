-- What the proofs of a removal share.
pub mod Taken
pub mod Answers
pub mod laws
