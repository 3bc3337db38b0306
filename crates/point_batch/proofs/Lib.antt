-- What the proofs of a batch share.
pub mod Ends
pub mod laws
