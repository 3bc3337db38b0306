-- The laws.
pub mod BatchMergeLaws
pub mod CommuteLaws
pub mod MaintainMergeLaws
pub mod MergeLaws
pub mod OrderLaws
pub mod OwnCallsLaws
pub mod PendedCommuteLaws
