-- Laws, and what the proofs share.
pub mod BlockLaws
pub mod PlaceLaws
pub mod BoxLaws
pub mod HasLaws
