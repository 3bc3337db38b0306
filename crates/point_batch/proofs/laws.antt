-- Laws, and what the proofs share.
pub mod BatchAnswerLaws
pub mod ManyLaws
pub mod BatchLaws
pub mod MarkLaws
