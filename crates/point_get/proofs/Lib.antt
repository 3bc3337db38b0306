-- Laws, and what the proofs share.
pub mod Reading
pub mod laws
