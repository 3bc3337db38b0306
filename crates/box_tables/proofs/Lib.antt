-- The laws that the proofs of box_tables share.
pub mod Shared
pub mod laws
