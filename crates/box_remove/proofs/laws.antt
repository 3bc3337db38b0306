-- Laws, and what the proofs share.
pub mod WithoutLaws
pub mod RemoveLaws
pub mod RemoveKeeps
