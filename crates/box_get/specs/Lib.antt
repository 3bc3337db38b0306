-- What `get`, `len` and `handles` of a box grid answer and write.
pub mod Meaning
