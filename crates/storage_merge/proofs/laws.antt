-- Laws, and what the proofs share.
pub mod Digits
pub mod RadixLaws
pub mod GrownLaws
pub mod DealLaws
pub mod Buckets
pub mod Rows
pub mod SpotLaws
