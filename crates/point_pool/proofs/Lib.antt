-- The laws that the proofs of point_pool share.
pub mod laws
