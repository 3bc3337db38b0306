-- Laws, and what the proofs share.
pub mod GoneLaws
pub mod TakenLaws
pub mod RemoveLaws
pub mod RemoveKeeps
pub mod DropLaws
