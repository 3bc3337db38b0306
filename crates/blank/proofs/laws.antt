-- Laws, and what the proofs share.
pub mod BlankLaws
pub mod FreeWordLaws
pub mod BuildLaws
