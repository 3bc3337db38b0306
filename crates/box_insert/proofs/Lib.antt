-- What the proofs of box_insert share.
mod Placed
mod Chosen
pub mod laws
