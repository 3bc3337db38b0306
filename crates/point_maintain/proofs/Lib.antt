-- The laws.
pub mod laws
