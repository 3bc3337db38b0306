-- Which records are readable, and as what: the fields of a record, what is taken off them, and that a request is read from its text alone.
pub mod Meaning
pub mod Inner
