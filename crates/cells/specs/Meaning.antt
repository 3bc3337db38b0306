-- What must be believed: what the public calls and the demands cite.
pub mod CellRule
pub mod Key
pub mod Range
pub mod Size
