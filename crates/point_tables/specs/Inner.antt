-- What only inner contracts cite.
pub mod Check
pub mod Count
pub mod Decide
pub mod Entry
