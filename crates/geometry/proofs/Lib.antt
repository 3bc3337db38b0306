-- What the proofs of the functions cite.
pub mod Tests
pub mod Unsigned
pub mod laws
