-- Laws, and what the proofs share.
pub mod ReplayLaws
pub mod TraceLaws
