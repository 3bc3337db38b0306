-- What the proofs of the reading calls share.
pub mod Reading
pub mod laws
