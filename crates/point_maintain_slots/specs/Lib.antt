-- The pass of `maintain` over the slots, and its counts.
pub mod Inner
