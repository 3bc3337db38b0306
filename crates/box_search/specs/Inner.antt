-- What only inner contracts cite.
pub mod Collected
pub mod Gather
pub mod Marks
pub mod Put
