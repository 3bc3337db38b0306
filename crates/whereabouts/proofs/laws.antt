-- The laws.
pub mod CallLaws
pub mod CountedLaws
pub mod DisplacedLaws
pub mod MovedLaws
pub mod ShownLaws
pub mod ReportLaws
pub mod StandsLaws
