-- What the proofs of the code share.
pub mod Tests
pub mod laws
