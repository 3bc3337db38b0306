-- Laws, and what the proofs share.
pub mod LiveLaws
pub mod ClearedLaws
pub mod FillLaws
pub mod Live
