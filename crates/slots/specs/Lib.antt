-- Handles, versions and the slot map: what the Rust's SlotMap becomes.
pub mod Meaning
pub mod Inner
