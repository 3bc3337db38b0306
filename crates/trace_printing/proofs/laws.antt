-- Laws, and what the proofs share.
pub mod Lengths
pub mod Rows
pub mod Puts
