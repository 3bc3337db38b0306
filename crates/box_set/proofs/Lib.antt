-- What the proofs of box_set share.
mod Answers
mod Shifted
pub mod laws
