-- Laws, and what the proofs share.
pub mod StandsLaws
pub mod MarksLaws
pub mod FirstsLaws
pub mod Shared
pub mod CollectLaws
pub mod WalkLaws
pub mod KeepLaws
pub mod BroadLaws
pub mod SharedLaws
