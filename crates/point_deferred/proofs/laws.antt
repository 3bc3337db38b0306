-- Laws, and what the proofs share.
pub mod AnswerLaws
pub mod AgainLaws
pub mod ReadyLaws
pub mod MovesKeeps
pub mod MovesLaws
pub mod HeldLaws
pub mod PendedLaws
pub mod TrackerLaws
pub mod Held
pub mod AskLaws
