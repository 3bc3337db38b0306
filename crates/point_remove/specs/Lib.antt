-- What `remove_maintain` answers and leaves.
pub mod Meaning
pub mod Inner
