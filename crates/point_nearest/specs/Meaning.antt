-- What must be believed.
pub mod Nearest
