-- The laws that the proofs of objects share.
pub mod Shared
pub mod laws
