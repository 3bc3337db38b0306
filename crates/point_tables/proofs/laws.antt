-- Laws, and what the proofs share.
pub mod Members
pub mod ListedLaws
pub mod RowLaws
pub mod RoomLaws
pub mod CheckLaws
pub mod HeadLaws
pub mod CoverLaws
pub mod HoldsLaws
pub mod CountLaws
pub mod EntryLaws
