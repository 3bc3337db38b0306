-- Laws, and what the proofs share.
pub mod InsertLaws
pub mod PutLaws
pub mod InsertKeeps
pub mod EnterLaws
pub mod NewLaws
