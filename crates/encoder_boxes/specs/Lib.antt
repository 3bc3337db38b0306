-- The boxes that a block of the frame meets, and what one pass over the blocks makes of the map.
pub mod Meaning
pub mod Inner
