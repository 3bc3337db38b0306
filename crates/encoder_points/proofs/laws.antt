-- Laws, and what the proofs share.
pub mod SomeLaws
pub mod MarkLaws
pub mod NearLaws
pub mod PointLaws
