-- What `maintain` does: the Rust's walk, list by list, and its counts.
pub mod Meaning
pub mod Inner
