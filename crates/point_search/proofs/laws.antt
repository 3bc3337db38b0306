-- Laws, and what the proofs share.
pub mod FindLaws
pub mod GatherLaws
pub mod FillLaws
pub mod StretchLaws
pub mod ReversedLaws
pub mod OnceLaws
pub mod FoundLaws
pub mod ScanLaws
pub mod PlacesLaws
pub mod BegunLaws
pub mod RowLaws
