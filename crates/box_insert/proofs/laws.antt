-- Laws, and what the proofs share.
pub mod InsertLaws
pub mod LiveLaws
pub mod InsertKeeps
pub mod ChangeLaws
pub mod NewLaws
