-- Laws, and what the proofs share.
pub mod laws
