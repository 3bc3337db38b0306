-- What the walks of the box grid's queries find, keep and write.
pub mod Meaning
pub mod Inner
