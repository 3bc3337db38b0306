-- Laws, and what the proofs share.
pub mod CornerLaws
pub mod CaseLaws
