-- Laws, and what the proofs share.
pub mod WindowLaws
pub mod MetLaws
pub mod OverlayLaws
pub mod NarrowLaws
