-- Laws, and what the proofs share.
pub mod ToldLaws
pub mod Cell
