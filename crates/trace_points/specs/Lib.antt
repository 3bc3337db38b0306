-- What the point grid of the trace answers to a request.
pub mod Meaning
