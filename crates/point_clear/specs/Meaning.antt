-- What the contracts cite.
pub mod Clear
