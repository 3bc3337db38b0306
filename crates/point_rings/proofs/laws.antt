-- Laws, and what the proofs share.
pub mod CellNumbers
pub mod AxisLaws
pub mod DistanceLaws
pub mod FarLaws
pub mod GapLaws
pub mod LookLaws
pub mod LeastLaws
pub mod PlaceLaws
pub mod RingLaws
pub mod WalkLaws
