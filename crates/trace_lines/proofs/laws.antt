-- Laws, and what the proofs share.
pub mod WordLaws
pub mod ReadLaws
pub mod Exact
pub mod CursorLaws
pub mod Cases
pub mod InputLaws
pub mod FieldLaws
pub mod TextLaws
