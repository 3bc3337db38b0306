-- What the pass over the pool and the cell table asks, and its laws.
pub mod Inner
