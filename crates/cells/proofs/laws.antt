-- Laws, and what the proofs share.
pub mod Cover
pub mod RangeKeyLaws
pub mod KeyLaws
pub mod SpanLaws
pub mod CellTable
pub mod StepLaws
pub mod RangeLaws
pub mod CellRuleLaws
pub mod CellSignLaws
pub mod EdgeLaws
pub mod EdgeRule
pub mod EqualLaws
pub mod Numbers
pub mod Patterns
pub mod Range
pub mod ReachLaws
pub mod Rising
