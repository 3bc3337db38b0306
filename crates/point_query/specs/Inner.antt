-- What only further theorems cite.
pub mod Cases
