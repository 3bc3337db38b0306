-- What the proofs of this crate's functions share.
pub mod Fields
pub mod Signs
pub mod Edges
pub mod Quotient
pub mod laws
