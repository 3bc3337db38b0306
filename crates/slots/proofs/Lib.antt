-- What the proofs of slots share.
pub mod Shared
pub mod laws
