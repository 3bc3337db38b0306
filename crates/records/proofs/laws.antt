-- Laws of records spread and gathered, and of columns with the same records.
pub mod SpreadLaws
pub mod SeenLaws
pub mod AlikeLaws
pub mod StoredLaws
pub mod AgainLaws
pub mod Alike
