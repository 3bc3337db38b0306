-- Laws, and what the proofs share.
pub mod EveryLaws
pub mod AnswerLaws
pub mod MapLaws
pub mod DrawLaws
