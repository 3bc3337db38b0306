-- The live slots of the numbers of a grid, in ascending order, and the numbers and the map after all of them are emptied: the same for
-- points and boxes.
pub mod Meaning
