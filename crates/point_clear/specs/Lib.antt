-- What `clear` answers, writes and leaves.
pub mod Meaning
pub mod Inner
