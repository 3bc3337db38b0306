-- Laws, and what the proofs share.
pub mod WrittenLaws
pub mod CountLaws
pub mod FieldLaws
pub mod TextLaws
pub mod Rows
