-- What only inner contracts cite.
pub mod CellRule
pub mod Cut
pub mod Edge
pub mod EdgeRule
pub mod Key
pub mod Numbers
pub mod Patterns
pub mod Rising
pub mod Span
