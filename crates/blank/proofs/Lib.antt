-- What the proofs of blank share.
mod Fill
pub mod laws
