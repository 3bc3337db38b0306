-- Laws, and what the proofs share.
pub mod SweepingLaws
pub mod MergingLaws
pub mod RaisingLaws
pub mod LayingLaws
pub mod LeavingLaws
pub mod LeaveLaws
pub mod TakenLaws
pub mod EnterLaws
pub mod ListLaws
pub mod RangeWalkLaws
