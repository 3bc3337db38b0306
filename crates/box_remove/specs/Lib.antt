-- What `remove` of a box grid answers and leaves.
pub mod Meaning
pub mod Inner
