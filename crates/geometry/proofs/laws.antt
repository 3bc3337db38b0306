-- Laws, and what the proofs share.
pub mod DomainLaws
pub mod RoundingLaws
pub mod Sums
pub mod BitsLaws
pub mod Around
pub mod OrderLaws
pub mod Back
pub mod Rounding
pub mod Near
pub mod CircleLaws
pub mod Cases
pub mod WithinLaws
pub mod RectangleLaws
pub mod Value
