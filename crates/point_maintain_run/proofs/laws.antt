-- Laws, and what the proofs share.
pub mod OverLaws
pub mod Assembled
