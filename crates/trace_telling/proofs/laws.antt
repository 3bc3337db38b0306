-- Laws, and what the proofs share.
pub mod InRange
pub mod Tells
