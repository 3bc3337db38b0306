-- Laws, and what the proofs share.
pub mod BoxLaws
pub mod WayLaws
pub mod ListedLaws
pub mod CheckLaws
pub mod HeadLaws
pub mod HoldsLaws
pub mod PassLaws
pub mod CornerLaws
pub mod NumberLaws
