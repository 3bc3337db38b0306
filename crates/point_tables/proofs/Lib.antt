-- The laws that the proofs of point_tables share.
pub mod Shared
pub mod laws
