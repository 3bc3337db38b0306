-- What must be believed: what the public calls and the demands cite.
pub mod Circle
pub mod Domain
pub mod Intersects
pub mod Rectangle
pub mod Zero
