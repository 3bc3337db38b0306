-- What the deferred calls answer and leave.
-- what the working code does, and that it is the calls
pub mod Meaning
pub mod Inner
