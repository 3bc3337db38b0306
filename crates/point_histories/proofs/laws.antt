-- The laws.
pub mod HistoryLaws
pub mod OnwardLaws
pub mod TrackerLaws
