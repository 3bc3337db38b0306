-- Laws, and what the proofs share.
pub mod SetAabbLaws
pub mod SetAabbKeeps
