-- What only inner contracts cite.
pub mod Closed
pub mod Kept
pub mod Settle
