-- What a batch of deferred calls answers and leaves.
pub mod Meaning
pub mod Inner
