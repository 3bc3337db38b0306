-- What only inner contracts cite.
pub mod Look
pub mod Rings
