-- What must be believed: what the public calls and the demands cite.
pub mod BoxTold
pub mod Made
pub mod PointTold
pub mod Told
