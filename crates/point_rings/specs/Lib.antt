-- The nearest of the entries, looked for ring by ring.
pub mod Inner
