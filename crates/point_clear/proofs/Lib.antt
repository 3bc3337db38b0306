-- What the proofs of `clear` share.
pub mod Cleared
pub mod laws
