-- What every crate above cites: tests that say a fact, the first refusal that applies, the outcome of a call, and the limits of document 01.
pub mod Meaning
pub mod Inner
pub mod Words
