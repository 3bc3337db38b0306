-- What `set_aabb` answers and leaves.
pub mod Meaning
pub mod Inner
