-- What must be believed: what the public calls and the demands cite.
pub mod Columns
pub mod Occupied
pub mod States
pub mod Trackers
pub mod Word
