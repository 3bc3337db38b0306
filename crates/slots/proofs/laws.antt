-- Laws, and what the proofs share.
pub mod HandleLaws
pub mod GoneLaws
pub mod OnwardLaws
pub mod SlotLaws
pub mod CountLaws
pub mod BitLaws
pub mod LowestLaws
pub mod MapLaws
pub mod EmptyLaws
pub mod Decide
pub mod Map
pub mod Slot
