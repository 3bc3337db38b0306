-- Laws, and what the proofs share.
pub mod LiveLaws
pub mod ReadsLaws
