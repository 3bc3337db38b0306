-- Laws, and what the proofs share.
pub mod SpotLaws
pub mod PutLaws
pub mod BareLaws
pub mod CountsLaws
pub mod PassLaws
pub mod Pass
