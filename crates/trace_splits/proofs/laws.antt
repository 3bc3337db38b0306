-- Laws, and what the proofs share.
pub mod SplitLaws
pub mod Cases
pub mod RecordLaws
pub mod LineLaws
pub mod Sofar
