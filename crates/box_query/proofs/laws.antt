-- Laws, and what the proofs share.
pub mod CaseLaws
pub mod LookLaws
pub mod AnswerLaws
pub mod CallLaws
pub mod Cases
