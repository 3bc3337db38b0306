-- What the proofs of the pass share.
pub mod Turns
pub mod Tags
pub mod laws
