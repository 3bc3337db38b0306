-- What the proofs of box_remove share.
mod Taken
pub mod laws
