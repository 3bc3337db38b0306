-- Laws, and what the proofs share.
pub mod OccupiedLaws
pub mod ColumnLaws
pub mod KeptLaws
pub mod Decide
pub mod WordLaws
pub mod OwnLaws
