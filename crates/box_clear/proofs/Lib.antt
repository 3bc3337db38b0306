-- What the proofs of box_clear share.
pub mod Cleared
pub mod laws
