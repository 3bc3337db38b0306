-- Laws, and what the proofs share.
pub mod ClearLaws
pub mod ClearKeeps
