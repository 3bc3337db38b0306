-- What answers say in the trace, and the places that requests name.
pub mod Meaning
pub mod Inner
