-- What `clear` of a box grid answers, writes and leaves.
pub mod Meaning
pub mod Inner
