-- What the proofs of inserts share.
mod Placed
pub mod Chosen
pub mod laws
