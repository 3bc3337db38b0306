-- What the contracts cite.
pub mod RemoveMaintain
