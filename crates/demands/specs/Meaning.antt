-- What must be believed: what the public calls and the demands cite.
pub mod BoxCalls
pub mod BoxDemands
pub mod Demands
pub mod Left
pub mod PointCalls
pub mod Queries
