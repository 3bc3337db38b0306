-- Laws, and what the proofs share.
pub mod NearLaws
pub mod ToldLaws
