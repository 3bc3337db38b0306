-- Laws, and what the proofs share.
pub mod PassLaws
pub mod MarkLaws
pub mod RunLaws
pub mod Pass
