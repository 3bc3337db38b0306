-- Laws, and what the proofs share.
pub mod ReadsLaws
pub mod LenLaws
