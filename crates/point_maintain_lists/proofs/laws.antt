-- Laws, and what the proofs share.
pub mod SweepingLaws
pub mod TagLaws
pub mod WalkingLaws
pub mod LaidLaws
pub mod ListLaws
pub mod RunLaws
pub mod Runs
