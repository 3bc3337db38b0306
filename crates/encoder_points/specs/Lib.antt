-- The points of the frame's blocks, and what one pass over the entries makes of the map.
pub mod Meaning
pub mod Inner
