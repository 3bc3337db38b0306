-- What must be believed: what the public calls and the demands cite.
pub mod Moved
pub mod Report
pub mod Stands
pub mod Whereabouts
