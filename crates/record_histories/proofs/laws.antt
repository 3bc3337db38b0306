-- The calls on columns that are alike, a call on records beside the same on columns, and histories.
pub mod SameLaws
pub mod MovesLaws
pub mod ReadsLaws
pub mod InsertLaws
pub mod MaintainLaws
pub mod CallLaws
pub mod HistoryLaws
pub mod DemandLaws
pub mod RefusedLaws
pub mod RecordHistory
