-- What the proofs of the code share.
pub mod Turns
pub mod laws
