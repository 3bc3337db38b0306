-- What building and inserting answer and leave, and that both keep the tables holding a grid.
pub mod Meaning
pub mod Inner
