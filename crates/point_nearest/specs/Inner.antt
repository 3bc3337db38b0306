-- What only inner contracts and further theorems cite.
pub mod Scan
pub mod Told
