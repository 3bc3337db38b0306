-- Laws, and what the proofs share.
pub mod AnswerLaws
pub mod DecideFloat
pub mod RefusalLaws
pub mod Counting
pub mod Says
pub mod NumberLaws
