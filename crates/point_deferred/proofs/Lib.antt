-- What the proofs of the deferred calls share.
pub mod Shared
pub mod laws
