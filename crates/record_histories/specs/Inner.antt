-- What only inner contracts cite.
pub mod RecordHistory
pub mod RecordReport
