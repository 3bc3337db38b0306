-- Laws, and what the proofs share.
pub mod MemberLaws
pub mod AgreeLaws
pub mod AnswerLaws
pub mod NearLaws
